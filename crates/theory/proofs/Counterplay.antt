-- What the harbour keeps in the waiting chart beats every plan with memory: a voyage that is long
-- enough passes any two limits, on the waits and on the showings of an odd colour.
use Rattle.chart.specs.Arena.{Arena, size, Ranged}
use Rattle.walks.specs.Games.{Step, Inside, Keeps}
use Rattle.walks.specs.Showings.{Chain, Shows, limit}
use Rattle.walks.proofs.Walks.{walk_first}
use Rattle.walks.proofs.Long.{long_walks}
use Rattle.game.specs.Reading.{owner_of, colour_of, degree_of, target_of, cost_of, game_of}
use Rattle.game.specs.Voyages.{Voyage, reached, passed, worst_wait}
use Rattle.game.specs.Held.{Plan, Follows, Picks, Held}
use Rattle.game.specs.Waiting.{arrive, positions, place, vertex_in, level_in, stage_in, may_be_laid, waiting, first_level, first}
use Rattle.game.proofs.Readings.{colour_low}
use Rattle.game.proofs.Positions.{toll_cases, tint_low, owner_at, colour_there, degree_at_vertex}
use Rattle.theory.specs.Levels.{Spot}
use Rattle.theory.proofs.Lifting.{StepAt, land_top, step_arrives, toll_arrives, won_toll, won_next}
use Rattle.theory.proofs.Sailing.{Sailed, sail}
use Rattle.theory.proofs.Laying.{lay, next_lay, lay_long, few_below}
use Rattle.std.specs.List.{AllByRecursion}
use Rattle.std.proofs.ByRecursion.{All-weaker}
use Rattle.std.proofs.Common.{◌≡◌, ℕ, ◌+◌, ◌*◌, ◌/◌, ◌<◌, ◌≤◌, true, false, eqb, ◌⊎◌, List, [], ◌∷◌, ◌++◌, length, sym, refl, ◌∙◌, inl, inr, le_of_eq, arith}
use native.Mathlib.Decide.{dec_le}

-- the harbour's moves are those of σ
abbrev pub Against : Arena → (ℕ → ℕ) → ℕ → ℕ → List ℕ → Type 0
Against a σ x l [] = Unit
Against a σ x l (m ∷ ms) =
    (m < degree_of a x) × (owner_of a x ≡ 1 → m ≡ σ (place a x l 0)) × Against a σ (target_of a x m) (arrive l (colour_of a (target_of a x m))) ms

-- the level at the end
abbrev ends_at : Arena → ℕ → ℕ → List ℕ → ℕ
ends_at a x l [] = l
ends_at a x l (m ∷ ms) = ends_at a (target_of a x m) (arrive l (colour_of a (target_of a x m))) ms

against_push : (a : Arena) (σ : ℕ → ℕ) (x l : ℕ) (ms : List ℕ) (m : ℕ) → Against a σ x l ms → m < degree_of a (reached a x ms) →
    (owner_of a (reached a x ms) ≡ 1 → m ≡ σ (place a (reached a x ms) (ends_at a x l ms) 0)) → Against a σ x l (ms ++ (m ∷ []))
against_push a σ x l [] m f h e = (h, e, tt)
against_push a σ x l (n ∷ ms) m f h e = (f.0, f.1, against_push a σ (target_of a x n) (arrive l (colour_of a (target_of a x n))) ms m f.2 h e)

module _ (a : Arena) (r : Ranged a) (ok : may_be_laid a ≡ true) (σ : ℕ → ℕ) (U : ℕ → Type 0)
    (k : Keeps (game_of (waiting a)) 1 (Spot a) σ U) where
  abbrev E : ℕ → ℕ → Type 0
  E = Inside U (Step (game_of (waiting a)) 1 σ)

  -- the positions of a voyage against the plan are a walk that stays in U
  lay_chain : (x l : ℕ) (ms : List ℕ) → l ≤ a.height / 2 → U (place a x l 0) → Against a σ x l ms → Chain E (lay a x l ms) × AllByRecursion (Spot a) (lay a x l ms)
  unfolding lay
  lay_chain x l [] hl u f = ((tt, tt), (k.inside _ u, tt))
  lay_chain x l (m ∷ ms) hl u f =
      let y : ℕ = target_of a x m in
      let j : ℕ = arrive l (colour_of a y) in
      let e : StepAt a r ok 1 σ U k l x y = (m, f.0, f.1, refl) in
      let t = won_toll a r ok 1 σ U k x y l hl u e in
      let b = won_next a r ok 1 σ U k x y l hl u e in
      let p = step_arrives a r ok 1 σ U k x y l hl e in
      let hj : j ≤ a.height / 2 = land_top a r ok 1 σ U k l y hl in
      let n = lay_chain y j ms hj b.1 f.2 in
      elim (toll_cases (cost_of a x m)) [
        | inl z ↦ rw z.0 ((next_lay E a _ y j ms (u, b.1, rw z.1 at p), n.0), (k.inside _ u, n.1))
        | inr z ↦
            let w : U (place a y j 1) = rw z.1 at t.1 in
            let q : eqb (cost_of a x m) 0 ≡ false = grind arith in
            rw q (((u, w, rw z.1 at p), (next_lay E a _ y j ms (w, b.1, toll_arrives a r ok 1 σ U k y j b.0 hj w), n.0)), (k.inside _ u, (k.inside _ w, n.1)))
      ]

  against_ends : (x l : ℕ) (ms : List ℕ) → l ≤ a.height / 2 → x < size a → U (place a x l 0) → Against a σ x l ms →
      (reached a x ms < size a) × (ends_at a x l ms ≤ a.height / 2) × U (place a (reached a x ms) (ends_at a x l ms) 0)
  against_ends x l [] hl hx u f = (hx, hl, u)
  against_ends x l (m ∷ ms) hl hx u f =
      let y : ℕ = target_of a x m in
      let b = won_next a r ok 1 σ U k x y l hl u (m, f.0, f.1, refl) in
      against_ends y (arrive l (colour_of a y)) ms (land_top a r ok 1 σ U k l y hl) b.0 b.1 f.2

  -- the harbour can go on by σ
  on_by : (v l : ℕ) (ms : List ℕ) → l ≤ a.height / 2 → v < size a → U (place a v l 0) → Against a σ v l ms → owner_of a (reached a v ms) ≡ 1 →
      (m : ℕ) × (m < degree_of a (reached a v ms)) × Against a σ v l (ms ++ (m ∷ []))
  on_by v l ms hl hv u f o =
      let x : ℕ = reached a v ms in
      let j : ℕ = ends_at a v l ms in
      let at = against_ends v l ms hl hv u f in
      let h : σ (place a x j 0) < degree_of a x =
      rw (degree_at_vertex a ok x j at.0 at.1) at (k.moves (place a x j 0) at.2 (owner_at a ok x j at.0 at.1 0 (omega arith) ∙ o)).0 in
      (σ (place a x j 0), h, against_push a σ v l ms _ f h (λ z. refl))

  -- the colours of the waiting chart end below h + 3
  spot_colour : (p : ℕ) → Spot a p → colour_of (waiting a) p < a.height + 3
  spot_colour p h =
      let t = tint_low a.height (colour_of a (vertex_in a p)) (level_in a p) (stage_in p) (colour_low a r _) in
      let c = colour_there a ok p h in
      omega arith

  -- so many moves suffice to show an odd colour more than K times
  abbrev enough : ℕ → ℕ
  enough K = limit (positions a + K) (a.height + 3)

  shows_there : (v l : ℕ) (ms : List ℕ) (K : ℕ) → l ≤ a.height / 2 → U (place a v l 0) → Against a σ v l ms → enough K ≤ length ms →
      Shows (colour_of (waiting a)) K (lay a v l ms) × AllByRecursion (Spot a) (lay a v l ms)
  shows_there v l ms K hl u f h =
      let ch = lay_chain v l ms hl u f in (
        long_walks E (colour_of (waiting a)) (positions a) K
            (λ p e loop. k.sound p (walk_first loop).1.2.0 (λ q. absurd (omega arith)) loop) (a.height + 3) (lay a v l ms) ch.0
            (All-weaker (Spot a) (λ p. (p < positions a) × (colour_of (waiting a) p < a.height + 3)) (λ p h. (h, spot_colour p h)) (lay a v l ms) ch.1)
            (let n = lay_long a v l ms in omega arith),
        ch.1,
      )

  -- the voyage passes one of the limits B and K
  abbrev pub Passes : ℕ → ℕ → ℕ → List ℕ → Type 0
  Passes B K v ms = (B < worst_wait a v ms) ⊎ Shows (colour_of a) K (passed a v ms)

  -- from a vertex whose first position the harbour keeps, σ beats every plan and every two limits
  pub beats : ((v : ℕ) → v < size a → 0 < degree_of a v) → (v : ℕ) → v < size a → U (first a v) → (plan : Plan) → Picks a plan v → (B K : ℕ) →
      (ms : List ℕ) × Voyage a v ms × Follows a plan v ms × Against a σ v (first_level a v) ms × Passes B K v ms
  beats mv v hv u plan picks B K =
      go (sail a r mv plan v hv picks (Against a σ v l) tt (λ ms m f o h. against_push a σ v l ms m f h (λ z. absurd (omega arith)))
      (λ ms f o. on_by v l ms hl hv u f o) (enough (K + (a.height / 2 * B + 1))))
    where
      l : ℕ
      l = first_level a v

      hl : l ≤ a.height / 2
      hl = land_top a r ok 1 σ U k 0 v (omega arith)

      go : Sailed a plan v (Against a σ v l) (enough (K + (a.height / 2 * B + 1))) → (ms : List ℕ) × Voyage a v ms × Follows a plan v ms × Against a σ v l ms × Passes B K v ms
      go t = (
        t.moves,
        t.voyage,
        t.follows,
        t.against,
        elim (dec_le (worst_wait a v t.moves) B) [
          | no h ↦ inl (omega arith)
          | yes h ↦
              let w = shows_there v l t.moves (K + (a.height / 2 * B + 1)) hl u t.against (le_of_eq (sym t.long)) in
              inr (few_below a r ok B K v t.moves hv t.voyage h w.1 w.0)
        ],
      )

  pub lost : ((v : ℕ) → v < size a → 0 < degree_of a v) → (v : ℕ) → U (first a v) → ¬ Held a v
  lost mv v u held =
      let t = beats mv v held.there u held.plan held.picks held.bound held.often in
      elim t.4 [ inl h ↦ (let w = held.waits t.0 t.1 t.2 in omega arith) | inr w ↦ held.shows t.0 t.1 t.2 w ]
