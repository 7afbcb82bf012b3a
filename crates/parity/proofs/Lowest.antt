-- The lowest number that passes a test, from what is known of each number.
use Rattle.std.proofs.Common.{◌≡◌, ℕ, zero, suc, ◌<◌, Bool, true, false, cond, Some, None, Option, refl, ap, ◌∙◌, arith}
use native.Mathlib.Decide.{ℕ_discrete}
use Rattle.parity.specs.Promise.{or_else, lowest}

module _ (test : ℕ → Bool) where
  pub lowest_nowhere : (n : ℕ) → ((p : ℕ) → p < n → test p ≡ false) → lowest test n ≡ None
  lowest_nowhere zero before = refl
  lowest_nowhere (suc n) before = rw (lowest_nowhere n (λ p h. before p (omega arith))) (rw (before n (omega arith)))

  pub lowest_at : (n p : ℕ) → p < n → test p ≡ true → ((q : ℕ) → q < p → test q ≡ false) → lowest test n ≡ Some p
  lowest_at zero p lt t before = absurd (omega arith)
  lowest_at (suc n) p lt t before = elim (ℕ_discrete n p) [
    | yes e ↦ ap (λ k. lowest test (suc k)) e ∙ rw (lowest_nowhere p before) (rw t)
    | no d ↦ rw (lowest_at n p (omega arith) t before)
  ]

  none_before : (o p : Option ℕ) → or_else o p ≡ None → (o ≡ None) × (p ≡ None)
  none_before (Some x) p e = cc
  none_before None p e = (refl, e)

  not_here : (b : Bool) (n : ℕ) → cond b (Some n) None ≡ None → b ≡ false
  not_here true n e = cc
  not_here false n e = refl

  pub lowest_none : (n p : ℕ) → lowest test n ≡ None → p < n → test p ≡ false
  lowest_none zero p none lt = absurd (omega arith)
  lowest_none (suc n) p none lt =
      let parts = none_before (lowest test n) (cond (test n) (Some n) None) none in
      elim (ℕ_discrete p n) [
        | yes e ↦ ap test e ∙ not_here (test n) n parts.1
        | no d ↦ lowest_none n p parts.0 (omega arith)
      ]
