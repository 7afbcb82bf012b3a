-- What the harbour keeps in the parity game on the chart itself is not held.
use Rattle.chart.specs.Arena.{Arena, size, Ranged}
use Rattle.walks.specs.Games.{Step, Inside, Keeps}
use Rattle.walks.specs.Showings.{Next, Chain, limit}
use Rattle.walks.proofs.Walks.{walk_first}
use Rattle.walks.proofs.Long.{long_walks}
use Rattle.game.specs.Reading.{owner_of, colour_of, degree_of, target_of, game_of}
use Rattle.game.specs.Voyages.{reached, passed}
use Rattle.game.specs.Held.{Held}
use Rattle.game.proofs.Readings.{colour_low, target_low}
use Rattle.theory.proofs.Sailing.{passed_long, Sailed, sail}
use Rattle.std.specs.List.{AllByRecursion}
use Rattle.std.proofs.Common.{◌≡◌, ℕ, ◌+◌, ◌<◌, List, [], ◌∷◌, ◌++◌, refl, arith}

module _ (a : Arena) (r : Ranged a) (σ : ℕ → ℕ) (V : ℕ → Type 0) (k : Keeps (game_of a) 1 (λ p. p < size a) σ V) where
  abbrev E : ℕ → ℕ → Type 0
  E = Inside V (Step (game_of a) 1 σ)

  -- the harbour's moves are those of σ
  abbrev Against : ℕ → List ℕ → Type 0
  Against x [] = Unit
  Against x (m ∷ ms) = (m < degree_of a x) × (owner_of a x ≡ 1 → m ≡ σ x) × Against (target_of a x m) ms

  next : (x m : ℕ) → V x → m < degree_of a x → (owner_of a x ≡ 1 → m ≡ σ x) → V (target_of a x m)
  next x m v h e = k.closed x _ v (target_low a r x m h) (m, h, e, refl)

  passed_against : (x : ℕ) (ms : List ℕ) → V x → Against x ms →
      Chain E (passed a x ms) × AllByRecursion (λ p. (p < size a) × (colour_of a p < a.height + 1)) (passed a x ms)
  passed_against x [] v f = ((tt, tt), ((k.inside x v, (let t = colour_low a r x in omega arith)), tt))
  passed_against x (m ∷ ms) v f =
      let vy = next x m v f.0 f.1 in
      let n = passed_against (target_of a x m) ms vy f.2 in
      ((head ms (v, vy, (m, f.0, f.1, refl)), n.0), ((k.inside x v, (let t = colour_low a r x in omega arith)), n.1))
    where
      head : (ms : List ℕ) → E x (target_of a x m) → Next E x (passed a (target_of a x m) ms)
      head [] e = e
      head (n ∷ ns) e = e

  ends_against : (x : ℕ) (ms : List ℕ) → V x → Against x ms → V (reached a x ms)
  ends_against x [] v f = v
  ends_against x (m ∷ ms) v f = ends_against (target_of a x m) ms (next x m v f.0 f.1) f.2

  against_push : (x : ℕ) (ms : List ℕ) (m : ℕ) → Against x ms → m < degree_of a (reached a x ms) → (owner_of a (reached a x ms) ≡ 1 → m ≡ σ (reached a x ms)) → Against x (ms ++ (m ∷ []))
  against_push x [] m f h e = (h, e, tt)
  against_push x (n ∷ ms) m f h e = (f.0, f.1, against_push (target_of a x n) ms m f.2 h e)

  on_by : (v : ℕ) (ms : List ℕ) → V v → Against v ms → owner_of a (reached a v ms) ≡ 1 → (m : ℕ) × (m < degree_of a (reached a v ms)) × Against v (ms ++ (m ∷ []))
  on_by v ms u f o =
      let h = (k.moves (reached a v ms) (ends_against v ms u f) o).0 in
      (σ (reached a v ms), h, against_push v ms _ f h (λ z. refl))

  pub lost_plain : ((v : ℕ) → v < size a → 0 < degree_of a v) → (v : ℕ) → V v → ¬ Held a v
  lost_plain mv v u held =
      go (sail a r mv held.plan v held.there held.picks (Against v) tt (λ ms m f o h. against_push v ms m f h (λ z. absurd (omega arith)))
      (λ ms f o. on_by v ms u f o) (limit (size a + held.often) (a.height + 1)))
    where
      go : Sailed a held.plan v (Against v) (limit (size a + held.often) (a.height + 1)) → ⊥
      go t =
          let p = passed_against v t.moves u t.against in
          held.shows t.moves t.voyage t.follows
          (long_walks E (colour_of a) (size a) held.often
          (λ p e loop. k.sound p (walk_first loop).1.2.0 (λ q. absurd (omega arith)) loop) (a.height + 1) (passed a v t.moves) p.0 p.1
          (let n = passed_long a v t.moves in let b = t.long in omega arith))
