-- A safe plan and a safe counterplay decide which vertices are held: the marked ones, and no others.
use Rattle.chart.specs.Arena.{Arena, size, Ranged}
use Rattle.walks.specs.Games.{Step, Keeps}
use Rattle.walks.specs.Showings.{Shows}
use Rattle.walks.proofs.Walks.{walk_map}
use Rattle.game.specs.Reading.{owner_of, colour_of, degree_of, target_of, game_of}
use Rattle.game.specs.Voyages.{Voyage, passed, worst_wait}
use Rattle.game.specs.Held.{Plan, Follows, Picks, Held}
use Rattle.game.specs.Waiting.{arrive, place, stage_in, may_be_laid, waiting, first_level, first}
use Rattle.game.specs.Claims.{SafePlan, entry, Counters, by_entry, CounterStep, Reached, begun, led, SafeCounter}
use Rattle.game.proofs.Readings.{colour_low, target_low}
use Rattle.game.proofs.Positions.{arrive_top, place_low, degree_off, waiting_size, waiting_ranged}
use Rattle.theory.specs.Levels.{Spot}
use Rattle.theory.proofs.Bounds.{marked_held}
use Rattle.theory.proofs.Counterplay.{Against, beats, lost}
use Rattle.std.proofs.Common.{◌≡◌, ℕ, ◌/◌, ◌<◌, true, false, cond, eqb, ◌⊎◌, List, [], ◌∷◌, sym, ap, ◌∙◌, subst, arith}
use native.Mathlib.Decide.{ℕ_discrete}

-- moves of the waiting chart lead to positions
pub spot_leads : (a : Arena) → Ranged a → may_be_laid a ≡ true → (p m : ℕ) → m < degree_of (waiting a) p → Spot a (target_of (waiting a) p m)
spot_leads a r ok p m h = let t = target_low (waiting a) (waiting_ranged a r) p m h in let n = waiting_size a ok in omega arith

pub first_low : (a : Arena) → Ranged a → (v : ℕ) → v < size a → Spot a (first a v)
first_low a r v h = place_low a v (first_level a v) 0 (arrive_top 0 (colour_of a v) a.height (omega arith) (colour_low a r v) r.even) (omega arith) h

-- at stage 0 the counterplay goes by its entry
at_entry : (a : Arena) (t : ℕ → ℕ) (v l : ℕ) → by_entry t (place a v l 0) ≡ t (entry a v l)
at_entry a t v l =
    let s : stage_in (place a v l 0) ≡ 0 = omega arith in
    let h : place a v l 0 / 2 ≡ entry a v l = omega arith in
    ap (λ n. cond (eqb n 0) (t (place a v l 0 / 2)) 0) s ∙ ap t h

counters : (a : Arena) (t : ℕ → ℕ) (v l : ℕ) (ms : List ℕ) → Against a (by_entry t) v l ms → Counters a t v l ms
counters a t v l [] f = tt
counters a t v l (m ∷ ms) f = ((λ o. f.1 o ∙ at_entry a t v l), counters a t (target_of a v m) (arrive l (colour_of a (target_of a v m))) ms f.2)

module _ (a : Arena) (r : Ranged a) (ok : may_be_laid a ≡ true) (mv : (v : ℕ) → v < size a → 0 < degree_of a v)
    (Marked : ℕ → Type 0) (t : ℕ → ℕ) (safe : SafeCounter a Marked t) where
  reached_low : {p : ℕ} → Reached a Marked t p → Spot a p
  reached_low (begun {v} h n) = first_low a r v h
  reached_low (led {p} w e) = subst (Spot a) e.3 (spot_leads a r ok p e.0 e.1)

  -- the harbour keeps the reached positions by the counterplay
  pub reached_kept : Keeps (game_of (waiting a)) 1 (Spot a) (by_entry t) (Reached a Marked t)
  reached_kept =
      record {
        inside = λ p w. reached_low w;
        moves = λ p w o. (safe.moves p w o, spot_leads a r ok p (by_entry t p) (safe.moves p w o));
        closed = λ p q w x e. led w e;
        sound = λ p w bad loop. safe.no_even_loop p w (omega arith) loop;
      }

  -- from an unmarked vertex, for every plan with memory and every two limits, a voyage that follows
  -- the plan and the counterplay passes one of them
  pub counterplay_beats : (v : ℕ) → v < size a → ¬ Marked v → (plan : Plan) → Picks a plan v → (B K : ℕ) →
      (ms : List ℕ) × Voyage a v ms × Follows a plan v ms × Counters a t v (first_level a v) ms × ((B < worst_wait a v ms) ⊎ Shows (colour_of a) K (passed a v ms))
  counterplay_beats v h n plan picks B K =
      let b = beats a r ok (by_entry t) (Reached a Marked t) reached_kept mv v h (begun h n) plan picks B K in
      (b.0, b.1, b.2, counters a t v (first_level a v) b.0 b.3, b.4)

  pub unmarked_lost : (v : ℕ) → v < size a → ¬ Marked v → ¬ Held a v
  unmarked_lost v h n = lost a r ok (by_entry t) (Reached a Marked t) reached_kept mv v (begun h n)

  pub decides : (s : ℕ → ℕ) → SafePlan a Marked s → (v : ℕ) → v < size a → (Marked v → Held a v) × (¬ Marked v → ¬ Held a v)
  decides s plan v h = (marked_held a r Marked s plan v, unmarked_lost v h)

-- what the harbour keeps in the waiting chart makes a safe counterplay, if it has the first
-- position of every unmarked vertex and the counterplay's entries at reached positions are its
-- moves
module _ (a : Arena) (r : Ranged a) (ok : may_be_laid a ≡ true) (Marked : ℕ → Type 0) (t σ : ℕ → ℕ) (V : ℕ → Type 0)
    (k : Keeps (game_of (waiting a)) 1 (Spot a) σ V)
    (unmarked : (v : ℕ) → v < size a → ¬ Marked v → V (first a v))
    (agrees : (p : ℕ) → Reached a Marked t p → owner_of (waiting a) p ≡ 1 → stage_in p ≡ 0 → t (p / 2) ≡ σ p) where
  -- at a toll there is one move
  same_move : (p : ℕ) → Reached a Marked t p → V p → owner_of (waiting a) p ≡ 1 → by_entry t p ≡ σ p
  same_move p w v o = elim (ℕ_discrete (stage_in p) 0) [
    | yes e ↦ ap (λ n. cond (eqb n 0) (t (p / 2)) 0) e ∙ agrees p w o e
    | no d ↦
        let n : by_entry t p ≡ 0 = (let e : eqb (stage_in p) 0 ≡ false = grind arith in rw e) in
        let h = (k.moves p v o).0 in
        let g = degree_off a ok p (k.inside p v) d in
        omega arith
  ]

  by_kept : (p q : ℕ) → Reached a Marked t p → V p → CounterStep a t p q → Step (game_of (waiting a)) 1 σ p q
  by_kept p q w v e = (e.0, e.1, (λ o. e.2 o ∙ same_move p w v o), e.3)

  reached_won : {p : ℕ} → Reached a Marked t p → V p
  reached_won (begun h n) = unmarked _ h n
  reached_won (led {p} {q} w e) =
      let v = reached_won w in
      k.closed p q v (subst (Spot a) e.3 (spot_leads a r ok p e.0 e.1)) (by_kept p q w v e)

  pub counter_safe : SafeCounter a Marked t
  counter_safe =
      record {
        moves = λ p w o. subst (λ m. m < degree_of (waiting a) p) (sym (same_move p w (reached_won w) o)) (k.moves p (reached_won w) o).0;
        no_even_loop = λ p w e loop. k.sound p (reached_won w) (λ o. absurd (omega arith))
            (walk_map (λ x y s. (s.0, s.1, (reached_won s.2.0, reached_won s.2.1, by_kept x y s.2.0 (reached_won s.2.0) s.2.2))) loop);
      }
