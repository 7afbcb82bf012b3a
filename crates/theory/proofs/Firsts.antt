-- Where every vertex has a move, a vertex is held exactly when its first position in the waiting
-- chart is held.
use Rattle.chart.specs.Arena.{Arena, size, Ranged}
use Rattle.walks.specs.Games.{Game, Keeps}
use Rattle.walks.specs.Tables.{In, members}
use Rattle.walks.proofs.Determined.{Solved, determined}
use Rattle.game.specs.Reading.{colour_of, degree_of, game_of}
use Rattle.game.specs.Held.{Held}
use Rattle.game.specs.Waiting.{positions, vertex_in, stage_in, may_be_laid, waiting, first_level, first}
use Rattle.game.specs.Claims.{SafePlan}
use Rattle.game.proofs.Readings.{colour_low, owner_other}
use Rattle.game.proofs.Positions.{arrive_stays, arrive_top, vertex_in_low, degree_on, degree_off, cost_there, waiting_size, waiting_ranged}
use Rattle.theory.specs.Levels.{Spot}
use Rattle.theory.proofs.Plans.{plan, plan_safe}
use Rattle.theory.proofs.Bounds.{marked_held}
use Rattle.theory.proofs.Counterplay.{lost}
use Rattle.theory.proofs.Deciding.{spot_leads, first_low}
use Rattle.theory.proofs.Best.{best, Won, best_is}
use Rattle.theory.proofs.Plain.{lost_plain}
use Rattle.std.proofs.Common.{◌≡◌, ℕ, suc, ◌/◌, ◌<◌, ◌≤◌, true, cond, ltb, ◌⊎◌, subst, inl, inr, arith}
use native.Mathlib.Decide.{ℕ_discrete, dec_le}

same_region : (g : Game) (i : ℕ) (R Q U : ℕ → Type 0) (s : ℕ → ℕ) → ((p : ℕ) → R p → Q p) → ((p : ℕ) → Q p → R p) → Keeps g i R s U → Keeps g i Q s U
same_region g i R Q U s f b k =
    record {
      inside = λ p u. f p (k.inside p u);
      moves = λ p u o. ((k.moves p u o).0, f _ (k.moves p u o).1);
      closed = λ p q u r e. k.closed p q u (b q r) e;
      sound = k.sound;
    }

-- the numbers below n, as a table
below : ℕ → ℕ → ℕ
below n p = cond (ltb p n) 1 0

below_in : (n p : ℕ) → p < n → In (below n) p
unfolding below
below_in n p h = grind arith

below_out : (n p : ℕ) → In (below n) p → p < n
unfolding below
below_out n p h = elim (dec_le (suc p) n) [ yes e ↦ e | no d ↦ absurd (grind arith) ]

module _ (a : Arena) (r : Ranged a) (ok : may_be_laid a ≡ true) (mv : (v : ℕ) → v < size a → 0 < degree_of a v) where
  -- every position has a move
  pub spot_moves : (p : ℕ) → Spot a p → 0 < degree_of (waiting a) p
  spot_moves p h = elim (ℕ_discrete (stage_in p) 0) [
    | yes e ↦ let d = degree_on a ok p h e in let m = mv (vertex_in a p) (vertex_in_low a p h) in omega arith
    | no e ↦ let d = degree_off a ok p h e in omega arith
  ]

  there : (p : ℕ) → p < size (waiting a) → Spot a p
  there p h = let n = waiting_size a ok in omega arith

  solved : Solved (game_of (waiting a)) 0 1 (below (positions a))
  solved = determined (game_of (waiting a)) (positions a) (owner_other (waiting a) (waiting_ranged a r)) (members (below (positions a)) (positions a)) (below (positions a)) (below_out (positions a))
      (λ p h. let m = spot_moves p (below_out (positions a) p h) in (0, m, below_in (positions a) _ (spot_leads a r ok p 0 m))) (omega arith)

  abbrev W : ℕ → Type 0
  W = In solved.mine

  ours : Keeps (game_of (waiting a)) 0 (Spot a) solved.by W
  ours = same_region (game_of (waiting a)) 0 (In (below (positions a))) (Spot a) _ _ (below_out (positions a)) (below_in (positions a)) solved.split_of.ours

  theirs : Keeps (game_of (waiting a)) 1 (Spot a) solved.by (In solved.yours)
  theirs = same_region (game_of (waiting a)) 1 (In (below (positions a))) (Spot a) _ _ (below_out (positions a)) (below_in (positions a)) solved.split_of.theirs

  dec : (p : ℕ) → Dec (W p)
  dec p = ℕ_discrete (solved.mine p) 1

  -- the vertices of won positions are held
  won_held : (v : ℕ) → Won a W dec v → Held a v
  won_held = marked_held a r (Won a W dec) (plan a r ok solved.by W ours (Won a W dec) (best a W dec) (best_is a W dec))
      (plan_safe a r ok solved.by W ours (Won a W dec) (best a W dec) (best_is a W dec))

  -- and so are the won positions, since nothing costs there
  spot_safe : SafePlan (waiting a) W solved.by
  spot_safe =
      record {
        there = λ p w. let h = ours.inside p w in let n = waiting_size a ok in omega arith;
        moves = λ p w o. (ours.moves p w o).0;
        closed = λ x y w e. ours.closed x y w (subst (Spot a) e.3 (spot_leads a r ok x e.0 e.1)) e;
        no_odd_loop = λ p w o loop. ours.sound p w (λ q. absurd (omega arith)) loop;
        no_costly_loop = λ p w o d. absurd (let h = d.costs in let z = cost_there a ok d.from d.move.0.0 in omega arith);
      }

  spot_held : (p : ℕ) → W p → Held (waiting a) p
  spot_held = marked_held (waiting a) (waiting_ranged a r) W solved.by spot_safe

  spot_lost : (p : ℕ) → In solved.yours p → ¬ Held (waiting a) p
  spot_lost = lost_plain (waiting a) (waiting_ranged a r) solved.by (In solved.yours)
      (same_region (game_of (waiting a)) 1 (Spot a) (λ p. p < size (waiting a)) _ _ (λ p h. let n = waiting_size a ok in omega arith) there theirs)
      (λ p h. spot_moves p (there p h))

  pub first_held : (v : ℕ) → v < size a → (Held a v → Held (waiting a) (first a v)) × (Held (waiting a) (first a v) → Held a v)
  first_held v hv =
      let hl : first_level a v ≤ a.height / 2 = arrive_top 0 (colour_of a v) a.height (omega arith) (colour_low a r v) r.even in
      elim (solved.split_of.all (first a v) (below_in (positions a) _ (first_low a r v hv))) [
        | inl w ↦ ((λ h. spot_held (first a v) w), λ h. won_held v (hv, first_level a v, ((hl, arrive_stays 0 (colour_of a v)), w)))
        | inr u ↦ ((λ h. absurd (lost a r ok solved.by (In solved.yours) theirs mv v u h)), λ h. absurd (spot_lost (first a v) u h))
      ]

  -- whether a vertex is held can be told
  pub held_or_not : (v : ℕ) → v < size a → Held a v ⊎ (¬ Held a v)
  held_or_not v hv =
      let hl : first_level a v ≤ a.height / 2 = arrive_top 0 (colour_of a v) a.height (omega arith) (colour_low a r v) r.even in
      elim (solved.split_of.all (first a v) (below_in (positions a) _ (first_low a r v hv))) [
        | inl w ↦ inl (won_held v (hv, first_level a v, ((hl, arrive_stays 0 (colour_of a v)), w)))
        | inr u ↦ inr (lost a r ok solved.by (In solved.yours) theirs mv v u)
      ]
