-- How many positions stand outside a set, and that fewer do when one joins.
use Rattle.std.proofs.Common.{◌≡◌, ℕ, zero, suc, ◌+◌, ◌<◌, ◌≤◌, cond, sym, ap, ◌∙◌, inl, inr, arith}
use native.Mathlib.Decide.{ℕ_discrete}
use Rattle.std.proofs.lemmas.Bool.{lt-ltb, le-ltb, cases_lt}
use Rattle.parity.specs.Attractors.{outside}

module _ (m : ℕ) (t : ℕ → ℕ) (n : ℕ) where
  counts_here : t n < m → outside m t (suc n) ≡ 1 + outside m t n
  counts_here h = ap (λ x. cond x 1 0 + outside m t n) (lt-ltb (t n) m h)

  counts_not : m ≤ t n → outside m t (suc n) ≡ outside m t n
  counts_not h = ap (λ x. cond x 1 0 + outside m t n) (le-ltb (t n) m h) ∙ omega arith

module _ (m : ℕ) (t u : ℕ → ℕ) where
  pub outside_le : (n : ℕ) → ((p : ℕ) → p < n → u p < m → t p < m) → outside m u n ≤ outside m t n
  outside_le zero sub = omega arith
  outside_le (suc n) sub =
      let r = outside_le n (λ p h. sub p (omega arith)) in
      elim (cases_lt (u n) m) [
        | inl h ↦ omega (arith, counts_here m u n h, counts_here m t n (sub n (omega arith) h))
        | inr h ↦ elim (cases_lt (t n) m) [
          | inl k ↦ omega (arith, counts_not m u n h, counts_here m t n k)
          | inr k ↦ omega (arith, counts_not m u n h, counts_not m t n k)
        ]
      ]

  pub outside_lt : (n p : ℕ) → ((q : ℕ) → q < n → u q < m → t q < m) → p < n → t p < m → m ≤ u p → outside m u n < outside m t n
  outside_lt zero p sub lt h k = absurd (omega arith)
  outside_lt (suc n) p sub lt h k = elim (ℕ_discrete p n) [
    | yes e ↦
        let x : t n ≡ t p = ap t (sym e) in
        let y : u n ≡ u p = ap u (sym e) in
        let r = outside_le n (λ q l. sub q (omega arith)) in
        omega (arith, counts_not m u n (omega arith), counts_here m t n (omega arith))
    | no d ↦
        let r = outside_lt n p (λ q l. sub q (omega arith)) (omega arith) h k in
        elim (cases_lt (u n) m) [
          | inl v ↦ omega (arith, counts_here m u n v, counts_here m t n (sub n (omega arith) v))
          | inr v ↦ elim (cases_lt (t n) m) [
            | inl w ↦ omega (arith, counts_not m u n v, counts_here m t n w)
            | inr w ↦ omega (arith, counts_not m u n v, counts_not m t n w)
          ]
        ]
  ]
