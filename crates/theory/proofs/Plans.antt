-- The standing plan that plays, at each marked vertex, what the controller plays in the waiting
-- chart at the greatest stable level that it keeps there. Along a walk without an answer that level
-- never falls, so around a loop it is constant: a bad loop below is a bad loop in the waiting
-- chart.
use Rattle.chart.specs.Arena.{Arena, Ranged}
use Rattle.walks.specs.Games.{Step, Walk, last, step, Reaches, Inside, Loop, Keeps}
use Rattle.walks.proofs.Walks.{walk_map, walk_lift, walk_join, reach_after, reach_join}
use Rattle.game.specs.Reading.{owner_of, colour_of, degree_of, cost_of, game_of}
use Rattle.game.specs.Waiting.{arrive, toll, tint, place, may_be_laid, waiting}
use Rattle.game.specs.Claims.{PlanStep, WaitingStep, CostlyLoop, SafePlan}
use Rattle.game.proofs.Readings.{colour_low}
use Rattle.game.proofs.Positions.{arrive_stays, arrive_odd, toll_cases, toll_paid, owner_at, colour_at, degree_at_vertex}
use Rattle.theory.specs.Levels.{Spot, Best}
use Rattle.theory.proofs.Lifting.{StepAt, land_top, step_arrives, toll_arrives, won_toll, won_next}
use Rattle.std.proofs.Common.{◌≡◌, ℕ, ◌+◌, ◌*◌, ◌/◌, ◌%◌, ◌<◌, ◌≤◌, true, false, ◌&&◌, eqb, ltb, ◌⊎◌, sym, refl, ap, ◌∙◌, subst, subst₂, inl, inr, le_of_eq, arith}

-- a level that stands for more than q falls only at an answer to q
arrive_keeps : (l k q : ℕ) → q < 2 * l → (eqb (k % 2) 0 && ltb q k) ≡ false → l ≤ arrive l k
arrive_keeps l k q h n = grind arith

no_answer : (k q : ℕ) → k ≤ q → (eqb (k % 2) 0 && ltb q k) ≡ false
no_answer k q h = grind arith

tint_vertex : (h k l : ℕ) → 0 < l → tint h k l 0 ≡ k
tint_vertex h k l e = grind arith

tint_toll : (h k l : ℕ) → 0 < l → tint h k l 1 ≡ h + 1
tint_toll h k l e = grind arith

module _ (a : Arena) (r : Ranged a) (ok : may_be_laid a ≡ true) (σ : ℕ → ℕ) (W : ℕ → Type 0)
    (k : Keeps (game_of (waiting a)) 0 (Spot a) σ W) (Marked : ℕ → Type 0) (best : ℕ → ℕ) (b : Best a W Marked best) where
  unfoldable pub plan : ℕ → ℕ
  plan v = σ (place a v (best v) 0)

  at_best : (x y : ℕ) → PlanStep a plan x y → StepAt a r ok 0 σ W k (best x) x y
  unfolding plan
  at_best x y e = e

  pub plan_moves : (x : ℕ) → Marked x → owner_of a x ≡ 0 → plan x < degree_of a x
  unfolding plan
  plan_moves x m o =
      let low : best x ≤ a.height / 2 = (b.stable x m).0 in
      let h = (k.moves _ (b.won x m) (owner_at a ok x (best x) (b.there x m) low 0 (omega arith) ∙ o)).0 in
      let d = degree_at_vertex a ok x (best x) (b.there x m) low in
      omega arith

  pub plan_closed : (x y : ℕ) → Marked x → PlanStep a plan x y → Marked y × (arrive (best x) (colour_of a y) ≤ best y)
  plan_closed x y m e =
      let low : best x ≤ a.height / 2 = (b.stable x m).0 in
      let n = won_next a r ok 0 σ W k x y (best x) low (b.won x m) (at_best x y e) in
      b.most y (arrive (best x) (colour_of a y)) n.0 (land_top a r ok 0 σ W k (best x) y low, arrive_stays (best x) (colour_of a y)) n.1

  -- without an answer the best level does not fall
  module _ (q : ℕ) where
    step_up : (x y : ℕ) → Marked x → q < 2 * best x → WaitingStep a plan q x y → Marked y × (best x ≤ best y)
    step_up x y m h e = let n = plan_closed x y m e.0 in let u = arrive_keeps (best x) (colour_of a y) q h e.1 in (n.0, omega arith)

    walk_up : {x y : ℕ} → Walk (WaitingStep a plan q) x y → Marked x → q < 2 * best x → Marked y × (best x ≤ best y)
    walk_up (last e) m h = step_up _ _ m h e
    walk_up (step e w) m h = let n = step_up _ _ m h e in let d = walk_up w n.0 (omega arith) in (d.0, omega arith)

    -- steps of E between marked vertices of one best level L
    abbrev Level : (ℕ → ℕ → Type 0) → ℕ → ℕ → ℕ → Type 0
    Level E L x y = Marked x × Marked y × (best x ≡ L) × (best y ≡ L) × E x y

    abbrev Flat : ℕ → ℕ → ℕ → Type 0
    Flat = Level (WaitingStep a plan q)

    walk_flat : (E : ℕ → ℕ → Type 0) (sub : (x y : ℕ) → E x y → WaitingStep a plan q x y) (L : ℕ) {x y : ℕ} → q < 2 * L → Walk E x y →
        Marked x → L ≤ best x → best y ≤ L → Walk (Level E L) x y
    walk_flat E sub L h (last e) m lo d = let u = step_up _ _ m (omega arith) (sub _ _ e) in last (m, u.0, omega arith, omega arith, e)
    walk_flat E sub L h (step e w) m lo d =
        let u = step_up _ _ m (omega arith) (sub _ _ e) in
        let v = walk_up (walk_map sub w) u.0 (omega arith) in
        step (m, u.0, omega arith, omega arith, e) (walk_flat E sub L h w u.0 (omega arith) d)

    -- steps of the waiting chart within W, with no colour above a bound
    abbrev Above : ℕ → ℕ → ℕ → Type 0
    Above bound = Inside (λ p. colour_of (waiting a) p ≤ bound) (Inside W (Step (game_of (waiting a)) 0 σ))

    same_land : (x y L : ℕ) → q < 2 * L → Flat L x y → arrive L (colour_of a y) ≡ L
    same_land x y L h f =
        let n = plan_closed x y f.0 f.4.0 in
        let u = arrive_keeps L (colour_of a y) q h f.4.1 in
        let z : arrive (best x) (colour_of a y) ≡ arrive L (colour_of a y) = ap (λ l. arrive l (colour_of a y)) f.2 in
        omega arith

    at_level : (x y L : ℕ) → best x ≡ L → PlanStep a plan x y → StepAt a r ok 0 σ W k L x y
    unfolding plan
    at_level x y L e p = (p.0, p.1, (λ o. p.2 o ∙ ap (λ l. σ (place a x l 0)) e), p.3)

    won_at : (x L : ℕ) → Marked x → best x ≡ L → W (place a x L 0)
    won_at x L m e = subst (λ l. W (place a x l 0)) e (b.won x m)

    low_at : (x L : ℕ) → Marked x → best x ≡ L → L ≤ a.height / 2
    low_at x L m e = subst (λ l. l ≤ a.height / 2) e (b.stable x m).0

    flat_step : (x y L : ℕ) → q < 2 * L → (f : Flat L x y) (t : ℕ) → toll (cost_of a x f.4.0.0) ≡ t →
        W (place a y L t) × Step (game_of (waiting a)) 0 σ (place a x L 0) (place a y L t)
    unfolding at_level
    flat_step x y L h f t e =
        let low : L ≤ a.height / 2 = low_at x L f.0 f.2 in
        let s : arrive L (colour_of a y) ≡ L = same_land x y L h f in
        let p : StepAt a r ok 0 σ W k L x y = at_level x y L f.2 f.4.0 in
        let w : W (place a y (arrive L (colour_of a y)) (toll (cost_of a x f.4.0.0))) = (won_toll a r ok 0 σ W k x y L low (won_at x L f.0 f.2) p).1 in
        let z : Step (game_of (waiting a)) 0 σ (place a x L 0) (place a y (arrive L (colour_of a y)) (toll (cost_of a x f.4.0.0))) = step_arrives a r ok 0 σ W k x y L low p in
        (subst₂ (λ l t. W (place a y l t)) s e w, subst₂ (λ l t. Step (game_of (waiting a)) 0 σ (place a x L 0) (place a y l t)) s e z)

    -- colours at a level above 0
    vertex_colour : (x L : ℕ) → Marked x → 0 < L → best x ≡ L → colour_of (waiting a) (place a x L 0) ≡ colour_of a x
    vertex_colour x L m h e = colour_at a ok x L (b.there x m) (low_at x L m e) 0 (omega arith) ∙ tint_vertex a.height (colour_of a x) L h

    toll_colour : (x L : ℕ) → Marked x → 0 < L → best x ≡ L → colour_of (waiting a) (place a x L 1) ≡ a.height + 1
    toll_colour x L m h e = colour_at a ok x L (b.there x m) (low_at x L m e) 1 (omega arith) ∙ tint_toll a.height (colour_of a x) L h

    vertex_below : (x L bound : ℕ) → Marked x → 0 < L → best x ≡ L → colour_of a x ≤ bound → colour_of (waiting a) (place a x L 0) ≤ bound
    vertex_below x L bound m h e le = rw (vertex_colour x L m h e) le

    step_free : (x y L bound : ℕ) → q < 2 * L → colour_of a x ≤ bound → colour_of a y ≤ bound → (f : Flat L x y) →
        toll (cost_of a x f.4.0.0) ≡ 0 → Above bound (place a x L 0) (place a y L 0)
    step_free x y L bound h hx hy f e =
        let n = flat_step x y L h f 0 e in
        (vertex_below x L bound f.0 (omega arith) f.2 hx, vertex_below y L bound f.1 (omega arith) f.3 hy, (won_at x L f.0 f.2, n.0, n.1))

    module _ (L bound : ℕ) (h : q < 2 * L) (wide : a.height + 1 ≤ bound) where
      below : (x : ℕ) → colour_of a x ≤ bound
      below x = let d = colour_low a r x in omega arith

      step_in : (x y : ℕ) → (f : Flat L x y) → toll (cost_of a x f.4.0.0) ≡ 1 → Above bound (place a x L 0) (place a y L 1)
      step_in x y f e =
          let n = flat_step x y L h f 1 e in
          let d = toll_colour y L f.1 (omega arith) f.3 in
          (vertex_below x L bound f.0 (omega arith) f.2 (below x), omega arith, (won_at x L f.0 f.2, n.0, n.1))

      step_out : (y : ℕ) → Marked y → best y ≡ L → W (place a y L 1) → Above bound (place a y L 1) (place a y L 0)
      step_out y m e w =
          let d = toll_colour y L m (omega arith) e in
          (omega arith, vertex_below y L bound m (omega arith) e (below y), (w, won_at y L m e, toll_arrives a r ok 0 σ W k y L (b.there y m) (low_at y L m e) w))

      step_any : (x y : ℕ) → Flat L x y → Walk (Above bound) (place a x L 0) (place a y L 0)
      step_any x y f = elim (toll_cases (cost_of a x f.4.0.0)) [
        | inl z ↦ last (step_free x y L bound h (below x) (below y) f z.1)
        | inr z ↦ step (step_in x y f z.1) (last (step_out y f.1 f.3 (flat_step x y L h f 1 z.1).0))
      ]

      lift_any : {x y : ℕ} → Walk (Flat L) x y → Walk (Above bound) (place a x L 0) (place a y L 0)
      lift_any (last f) = step_any _ _ f
      lift_any (step f w) = walk_join (step_any _ _ f) (lift_any w)

  reach_up : (q x y : ℕ) → Reaches (WaitingStep a plan q) x y → Marked x → q < 2 * best x → Marked y × (best x ≤ best y)
  reach_up q x y (inl e) m h = (subst Marked e m, le_of_eq (ap best e))
  reach_up q x y (inr w) m h = walk_up q w m h

  start_high : (u : ℕ) → Marked u → colour_of a u % 2 ≡ 1 → colour_of a u < 2 * best u
  start_high u m o = arrive_odd (best u) (colour_of a u) o (b.stable u m).1

  pub plan_cheap : (u : ℕ) → Marked u → colour_of a u % 2 ≡ 1 → ¬ CostlyLoop a plan u
  plan_cheap u m o d =
      let q : ℕ = colour_of a u in
      let x : ℕ = d.from in
      let y : ℕ = d.to in
      let hu : q < 2 * best u = start_high u m o in
      let mx = reach_up q u x d.met m hu in
      let L : ℕ = best x in
      let h : q < 2 * L = omega arith in
      let my = step_up q x y mx.0 h d.move in
      let back = reach_up q y x d.back my.0 (omega arith) in
      let f : Flat q L x y = (mx.0, my.0, refl, omega arith, d.move) in
      let e : toll (cost_of a x d.move.0.0) ≡ 1 = toll_paid _ d.costs in
      let w : W (place a y L 1) = (flat_step q x y L h f 1 e).0 in
      let z : colour_of (waiting a) (place a y L 1) ≡ a.height + 1 = toll_colour q y L my.0 (omega arith) f.3 in
      let bound : ℕ = colour_of (waiting a) (place a y L 1) in
      let out : Above q bound (place a y L 1) (place a y L 0) = step_out q L bound h (omega arith) y my.0 f.3 w in
      let into : Walk (Above q bound) (place a x L 0) (place a y L 1) = last (step_in q L bound h (omega arith) x y f e) in
      let rest : Walk (Above q bound) (place a y L 0) (place a y L 1) = elim d.back [
        | inl s ↦ subst (λ v. Walk (Above q bound) (place a v L 0) (place a y L 1)) (sym s) into
        | inr v ↦ walk_join (lift_any q L bound h (omega arith) (walk_flat q (WaitingStep a plan q) (λ x y e. e) L h v my.0 (omega arith) (omega arith))) into
      ] in
      let even = r.even in
      k.sound (place a y L 1) w (λ s. absurd (omega arith)) (step out rest)

  -- a walk costs nothing, or a step of it does
  module _ (q : ℕ) (E : ℕ → ℕ → Type 0) (sub : (x y : ℕ) → E x y → WaitingStep a plan q x y) where
    record Costly (x y : ℕ) : Type 0 where
      from : ℕ
      to : ℕ
      met : Reaches (WaitingStep a plan q) x from
      move : WaitingStep a plan q from to
      costs : 0 < cost_of a from move.0.0
      back : Reaches (WaitingStep a plan q) to y

    abbrev Free : ℕ → ℕ → Type 0
    Free x y = (e : E x y) × (toll (cost_of a x (sub x y e).0.0) ≡ 0)

    free_or_costly : {x y : ℕ} → Walk E x y → Walk Free x y ⊎ Costly x y
    free_or_costly (last {p} {q = t} e) = elim (toll_cases (cost_of a p (sub p t e).0.0)) [
      | inl z ↦ inl (last (e, z.1))
      | inr z ↦ inr (record { from = p; to = t; met = inl refl; move = sub p t e; costs = z.0; back = inl refl })
    ]
    free_or_costly (step {p} {q = t} e w) = elim (toll_cases (cost_of a p (sub p t e).0.0)) [
      | inl z ↦ elim (free_or_costly w) [
        | inl v ↦ inl (step (e, z.1) v)
        | inr d ↦ inr (record { from = d.from; to = d.to; met = inr (reach_after (sub p t e) d.met); move = d.move; costs = d.costs; back = d.back })
      ]
      | inr z ↦ inr (record { from = p; to = t; met = inl refl; move = sub p t e; costs = z.0; back = inr (walk_map sub w) })
    ]

  pub plan_sound : (u : ℕ) → Marked u → colour_of a u % 2 ≡ 1 → ¬ Loop (colour_of a) (Inside Marked (PlanStep a plan)) u
  plan_sound u m o loop =
      let q : ℕ = colour_of a u in
      let E : ℕ → ℕ → Type 0 = Inside (λ x. colour_of a x ≤ colour_of a u) (Inside Marked (PlanStep a plan)) in
      let sub : (x y : ℕ) → E x y → WaitingStep a plan q x y = λ x y e. (e.2.2, no_answer (colour_of a y) q e.1) in
      let L : ℕ = best u in
      let h : q < 2 * L = start_high u m o in
      elim (free_or_costly q E sub loop) [
        | inl v ↦
            let s : colour_of (waiting a) (place a u L 0) ≡ colour_of a u = vertex_colour q u L m (omega arith) refl in
            k.sound (place a u L 0) (b.won u m) (λ z. absurd (let y = ap (λ n. n % 2) s in omega arith))
            (walk_lift (λ x. place a x L 0)
            (λ x y f. step_free q x y L (colour_of (waiting a) (place a u L 0)) h (rw s f.4.0.0) (rw s f.4.0.1) (f.0, f.1, f.2, f.3, sub x y f.4.0) f.4.1)
            (walk_flat q (Free q E sub) (λ x y e. sub x y e.0) L h v m (omega arith) (omega arith)))
        | inr d ↦ plan_cheap u m o (record { from = d.from; to = d.to; met = d.met; move = d.move; costs = d.costs; back = reach_join d.back d.met })
      ]

  pub plan_safe : SafePlan a Marked plan
  plan_safe = record { there = b.there; moves = plan_moves; closed = λ x y m e. (plan_closed x y m e).0; no_odd_loop = plan_sound; no_costly_loop = plan_cheap }
