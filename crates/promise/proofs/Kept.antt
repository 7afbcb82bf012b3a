-- From what each player keeps in the waiting chart to the two halves of a claim: marks at the vertices with a stable level that the
-- controller keeps, the plan by its moves at the best such level, the counterplay by the harbour's moves where it is reached.
use Rattle.std.proofs.Common.{◌≡◌, ℕ, ◌/◌, ◌<◌, true, ◌⊎◌, sym, ◌∙◌, subst, inl, inr, arith}
use Rattle.chart.specs.Arena.{Arena, size, Ranged}
use Rattle.walks.specs.Games.{Walk, last, step, Reaches, Keeps}
use Rattle.walks.proofs.Walks.{walk_map}
use Rattle.game.specs.Reading.{owner_of, colour_of, degree_of, game_of}
use Rattle.game.specs.Waiting.{place, stage_in, may_be_laid, waiting, first_level, first}
use Rattle.game.specs.Claims.{PlanStep, WaitingStep, CostlyLoop, SafePlan, SafeCounter}
use Rattle.game.specs.Bounds.{greatest_wait}
use Rattle.game.proofs.Readings.{colour_low}
use Rattle.game.proofs.Positions.{arrive_stays, arrive_top}
use Rattle.theory.specs.Levels.{Spot, Best}
use Rattle.theory.proofs.Plans.{plan, plan_safe}
use Rattle.theory.proofs.Best.{best, Won, best_is}
use Rattle.theory.proofs.Deciding.{first_low, counter_safe}
use Rattle.promise.specs.Tables.{Tables, plan_of, counter_of, Marked}
use Rattle.promise.specs.Rules.{Met}
use Rattle.promise.proofs.Accepting.{marked, greatest_is}
use Rattle.promise.proofs.Promised.{Sound}

-- safety asks of a plan only its moves at the marked vertices of the controller
module _ (a : Arena) (M : ℕ → Type 0) (s z : ℕ → ℕ) (same : (v : ℕ) → M v → owner_of a v ≡ 0 → z v ≡ s v) (safe : SafePlan a M s) where
  same_step : (x y : ℕ) → M x → PlanStep a z x y → PlanStep a s x y
  same_step x y m e = (e.0, e.1, (λ o. e.2 o ∙ same x m o), e.3)

  waits_on : (q : ℕ) {x y : ℕ} → Walk (WaitingStep a z q) x y → M x → Walk (WaitingStep a s q) x y × M y
  waits_on q (last e) m = let f = same_step _ _ m e.0 in (last (f, e.1), safe.closed _ _ m f)
  waits_on q (step e w) m =
      let f = same_step _ _ m e.0 in
      let g = waits_on q w (safe.closed _ _ m f) in
      (step (f, e.1) g.0, g.1)

  reaches_on : (q : ℕ) {x y : ℕ} → Reaches (WaitingStep a z q) x y → M x → Reaches (WaitingStep a s q) x y × M y
  reaches_on q (inl e) m = (inl e, subst M e m)
  reaches_on q (inr w) m = let g = waits_on q w m in (inr g.0, g.1)

  costly_on : (u : ℕ) → M u → CostlyLoop a z u → CostlyLoop a s u
  unfolding same_step
  costly_on u m c =
      let f = reaches_on (colour_of a u) c.met m in
      let e = same_step c.from c.to f.1 c.move.0 in
      let g = reaches_on (colour_of a u) c.back (safe.closed _ _ f.1 e) in
      record { from = c.from; to = c.to; met = f.0; move = (e, c.move.1); costs = c.costs; back = g.0 }

  pub same_plan : SafePlan a M z
  same_plan =
      record {
        there = safe.there;
        moves = λ v m o. subst (λ k. k < degree_of a v) (sym (same v m o)) (safe.moves v m o);
        closed = λ x y m e. safe.closed x y m (same_step x y m e);
        no_odd_loop = λ u m o w. safe.no_odd_loop u m o (walk_map (λ x y e. (e.0, e.1, (e.2.0, e.2.1, same_step x y e.2.0 e.2.2))) w);
        no_costly_loop = λ u m o c. safe.no_costly_loop u m o (costly_on u m c);
      }

module _ (a : Arena) (r : Ranged a) (ok : may_be_laid a ≡ true) (mv : (v : ℕ) → v < size a → 0 < degree_of a v) (σ : ℕ → ℕ) (W V : ℕ → Type 0)
    (dec : (p : ℕ) → Dec (W p)) (ours : Keeps (game_of (waiting a)) 0 (Spot a) σ W) (theirs : Keeps (game_of (waiting a)) 1 (Spot a) σ V)
    (split : (p : ℕ) → Spot a p → W p ⊎ V p) (t : Tables)
    (mark : (v : ℕ) → Marked a t v → Won a W dec v) (back : (v : ℕ) → Won a W dec v → Marked a t v)
    (by : (v : ℕ) → Marked a t v → owner_of a v ≡ 0 → plan_of t v ≡ σ (place a v (best a W dec v) 0))
    (counter : (p : ℕ) → Met a t p → owner_of (waiting a) p ≡ 1 → stage_in p ≡ 0 → counter_of t (p / 2) ≡ σ p) where
  best_marked : Best a W (Marked a t) (best a W dec)
  best_marked =
      let b = best_is a W dec in
      record {
        there = λ v m. m.0;
        stable = λ v m. b.stable v (mark v m);
        won = λ v m. b.won v (mark v m);
        most = λ v l h s w. let x = b.most v l h s w in (back v x.0, x.1);
      }

  unmarked_lost : (v : ℕ) → v < size a → ¬ Marked a t v → V (first a v)
  unmarked_lost v h n = elim (split (first a v) (first_low a r v h)) [
    | inr x ↦ x
    | inl w ↦ absurd (n (back v (h, first_level a v, ((arrive_top 0 (colour_of a v) a.height (omega arith) (colour_low a r v) r.even, arrive_stays 0 (colour_of a v)), w))))
  ]

  kept_plan : SafePlan a (Marked a t) (plan_of t)
  unfolding plan
  kept_plan = same_plan a (Marked a t) (plan a r ok σ W ours (Marked a t) (best a W dec) best_marked) (plan_of t) by (plan_safe a r ok σ W ours (Marked a t) (best a W dec) best_marked)

  kept_counter : SafeCounter a (Marked a t) (counter_of t)
  kept_counter = counter_safe a r ok (Marked a t) (counter_of t) σ V theirs unmarked_lost counter

  pub kept_sound : Sound a t (greatest_wait a (marked a t) (plan_of t))
  kept_sound = record { plan = kept_plan; greatest = greatest_is a r t 0 0 kept_plan; laid = ok; moves = mv; counter = kept_counter }
