-- Steps of a chart, seen from the waiting chart, where one player keeps W there by σ.
use Rattle.chart.specs.Arena.{Arena, size, Ranged}
use Rattle.walks.specs.Games.{Step, Keeps}
use Rattle.game.specs.Reading.{colour_of, cost_of, game_of}
use Rattle.game.specs.Waiting.{arrive, toll, place, may_be_laid, waiting}
use Rattle.game.proofs.Readings.{moves_there, colour_low, target_low}
use Rattle.game.proofs.Positions.{arrive_top, toll_cases, toll_low, place_low, owner_at, degree_at_vertex, degree_at_toll, target_at_vertex, target_at_toll}
use Rattle.theory.specs.Levels.{Spot}
use Rattle.std.proofs.Common.{◌≡◌, ℕ, ◌/◌, ◌<◌, ◌≤◌, true, sym, ap, ◌∙◌, subst, inl, inr, arith}

module _ (a : Arena) (r : Ranged a) (ok : may_be_laid a ≡ true) (i : ℕ) (σ : ℕ → ℕ) (W : ℕ → Type 0)
    (k : Keeps (game_of (waiting a)) i (Spot a) σ W) where
  -- the level with which a move from level l arrives at y
  abbrev pub land : ℕ → ℕ → ℕ
  land l y = arrive l (colour_of a y)

  -- a step of i by what σ picks at the level l
  abbrev pub StepAt : ℕ → ℕ → ℕ → Type 0
  StepAt l = Step (game_of a) i (λ v. σ (place a v l 0))

  pub land_top : (l y : ℕ) → l ≤ a.height / 2 → land l y ≤ a.height / 2
  land_top l y low = arrive_top l (colour_of a y) a.height low (colour_low a r y) r.even

  pub step_arrives : (x y l : ℕ) → l ≤ a.height / 2 → (e : StepAt l x y) →
      Step (game_of (waiting a)) i σ (place a x l 0) (place a y (land l y) (toll (cost_of a x e.0)))
  step_arrives x y l low e =
      let hx : x < size a = moves_there a x e.0 e.1 in (
        e.0,
        rw (degree_at_vertex a ok x l hx low) e.1,
        (λ o. e.2 (sym (owner_at a ok x l hx low 0 (omega arith)) ∙ o)),
        target_at_vertex a ok x l hx low e.0 e.1 ∙ ap (λ z. place a z (land l z) (toll (cost_of a x e.0))) e.3,
      )

  pub toll_arrives : (v l : ℕ) → v < size a → l ≤ a.height / 2 → W (place a v l 1) → Step (game_of (waiting a)) i σ (place a v l 1) (place a v l 0)
  toll_arrives v l hv low w =
      let d = degree_at_toll a ok v l hv low in
      (0, omega arith, (λ o. let h = (k.moves (place a v l 1) w o).0 in omega arith), target_at_toll a ok v l hv low)

  -- the positions after a step are in W: the toll, if one is paid, and the vertex
  pub won_toll : (x y l : ℕ) → l ≤ a.height / 2 → W (place a x l 0) → (e : StepAt l x y) →
      (y < size a) × W (place a y (land l y) (toll (cost_of a x e.0)))
  won_toll x y l low w e =
      let hy : y < size a = subst (λ z. z < size a) e.3 (target_low a r x e.0 e.1) in
      (hy, k.closed (place a x l 0) _ w (place_low a y (land l y) _ (land_top l y low) (toll_low _) hy) (step_arrives x y l low e))

  pub won_next : (x y l : ℕ) → l ≤ a.height / 2 → W (place a x l 0) → StepAt l x y → (y < size a) × W (place a y (land l y) 0)
  won_next x y l low w e =
      let b = won_toll x y l low w e in
      let hl : land l y ≤ a.height / 2 = land_top l y low in
      elim (toll_cases (cost_of a x e.0)) [
        | inl z ↦ (b.0, subst (λ t. W (place a y (land l y) t)) z.1 b.1)
        | inr z ↦
            let t : W (place a y (land l y) 1) = subst (λ t. W (place a y (land l y) t)) z.1 b.1 in
            (b.0, k.closed _ _ t (place_low a y (land l y) 0 hl (omega arith) b.0) (toll_arrives y (land l y) b.0 hl t))
      ]
