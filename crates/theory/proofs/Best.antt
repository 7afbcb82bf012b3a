-- The greatest stable level that is won, where it can be told which positions are.
use Rattle.chart.specs.Arena.{Arena, size}
use Rattle.game.specs.Reading.{colour_of}
use Rattle.game.specs.Waiting.{arrive, place}
use Rattle.theory.specs.Levels.{Stable, Best}
use Rattle.std.proofs.Common.{ℕ, zero, suc, ◌/◌, ◌<◌, ◌≤◌, ◌⊎◌, subst, inl, inr, arith}
use native.Mathlib.Decide.{ℕ_discrete, dec_le}

-- the greatest number up to n that passes, if one does
pub greatest : (D : ℕ → Type 0) → ((l : ℕ) → Dec (D l)) → (n : ℕ) →
    ((l : ℕ) × (l ≤ n) × D l × ((m : ℕ) → m ≤ n → D m → m ≤ l)) ⊎ ((m : ℕ) → m ≤ n → ¬ D m)
greatest D dec zero = elim (dec zero) [ yes d ↦ inl (zero, omega arith, d, λ m h e. h) | no d ↦ inr (λ m h e. d (subst D (omega arith) e)) ]
greatest D dec (suc n) = elim (dec (suc n)) [
  | yes d ↦ inl (suc n, omega arith, d, λ m h e. h)
  | no d ↦ elim (greatest D dec n) [
    | inl g ↦ inl (g.0, (let b = g.1 in omega arith), g.2, λ m h e. elim (ℕ_discrete m (suc n)) [ yes q ↦ absurd (d (subst D q e)) | no q ↦ g.3 m (omega arith) e ])
    | inr g ↦ inr (λ m h e. elim (ℕ_discrete m (suc n)) [ yes q ↦ d (subst D q e) | no q ↦ g m (omega arith) e ])
  ]
]

module _ (a : Arena) (W : ℕ → Type 0) (dec : (p : ℕ) → Dec (W p)) where
  abbrev Wins : ℕ → ℕ → Type 0
  Wins v l = Stable a v l × W (place a v l 0)

  dec_wins : (v l : ℕ) → Dec (Wins v l)
  dec_wins v l = elim (dec_le l (a.height / 2)) [
    | no n ↦ no (λ w. n w.0.0)
    | yes h ↦ elim (ℕ_discrete (arrive l (colour_of a v)) l) [
      | no n ↦ no (λ w. n w.0.1)
      | yes e ↦ elim (dec (place a v l 0)) [ no n ↦ no (λ w. n w.1) | yes d ↦ yes ((h, e), d) ]
    ]
  ]

  abbrev Pick : ℕ → Type 0
  Pick v = ((l : ℕ) × (l ≤ a.height / 2) × Wins v l × ((m : ℕ) → m ≤ a.height / 2 → Wins v m → m ≤ l)) ⊎ ((m : ℕ) → m ≤ a.height / 2 → ¬ Wins v m)

  pick : (v : ℕ) → Pick v
  pick v = greatest (Wins v) (dec_wins v) (a.height / 2)

  level_of : (v : ℕ) → Pick v → ℕ
  level_of v (inl g) = g.0
  level_of v (inr n) = 0

  level_wins : (v : ℕ) (r : Pick v) (l : ℕ) → Wins v l → Wins v (level_of v r) × (l ≤ level_of v r)
  unfolding level_of
  level_wins v (inl g) l w = (g.2, g.3 l w.0.0 w)
  level_wins v (inr n) l w = absurd (n l w.0.0 w)

  pub best : ℕ → ℕ
  best v = level_of v (pick v)

  abbrev pub Won : ℕ → Type 0
  Won v = (v < size a) × (l : ℕ) × Wins v l

  pub best_is : Best a W Won best
  unfolding best
  best_is =
      record {
        there = λ v m. m.0;
        stable = λ v m. (level_wins v (pick v) m.1 m.2).0.0;
        won = λ v m. (level_wins v (pick v) m.1 m.2).0.1;
        most = λ v l hv s w. ((hv, l, (s, w)), (level_wins v (pick v) l (s, w)).1);
      }
