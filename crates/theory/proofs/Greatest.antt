-- The greatest of finitely many numbers is passed by none of them and is one of them.
use Rattle.game.specs.Bounds.{greatest_of}
use Rattle.std.proofs.Common.{◌≡◌, ℕ, zero, suc, ◌<◌, ◌≤◌, max, Bool, true, false, cond, ◌⊎◌, sym, refl, ap, ◌∙◌, subst, inl, inr, le_trans, le_of_eq, arith}
use native.Mathlib.Decide.{ℕ_discrete, dec_le}
use native.Mathlib.Nat.{le-max_left, le-max_right}

module _ (test : ℕ → Bool) (f : ℕ → ℕ) where
  pub greatest_over : (n m : ℕ) → m < n → test m ≡ true → f m ≤ greatest_of test f n
  greatest_over zero m h t = absurd (omega arith)
  greatest_over (suc n) m h t = elim (ℕ_discrete m n) [
    | yes e ↦ le_trans (le_of_eq (ap f e ∙ sym (subst (λ b. cond b (f n) 0 ≡ f n) (sym (ap test (sym e) ∙ t)) refl))) (le-max_right _ _)
    | no d ↦ le_trans (greatest_over n m (omega arith) t) (le-max_left _ _)
  ]

  -- x is 0, or f of a number below k that passes
  abbrev pub Met : ℕ → ℕ → Type 0
  Met k x = (x ≡ 0) ⊎ ((m : ℕ) × (m < k) × (test m ≡ true) × (x ≡ f m))

  pub greatest_met : (n : ℕ) → Met n (greatest_of test f n)
  greatest_met zero = inl refl
  greatest_met (suc n) = go (test n) refl (greatest_met n)
    where
      old : (x : ℕ) → x ≡ greatest_of test f n → Met n (greatest_of test f n) → Met (suc n) x
      old x e (inl z) = inl (e ∙ z)
      old x e (inr t) = inr (t.0, (let h = t.1 in omega arith), t.2, e ∙ t.3)

      go : (b : Bool) → test n ≡ b → Met n (greatest_of test f n) → Met (suc n) (max (greatest_of test f n) (cond (test n) (f n) 0))
      go false e r = old _ (rw e (omega arith)) r
      go true e r = elim (dec_le (f n) (greatest_of test f n)) [ yes h ↦ old _ (rw e (omega arith)) r | no h ↦ inr (n, omega arith, e, rw e (omega arith)) ]

  pub greatest_none : (n : ℕ) → ((m : ℕ) → m < n → test m ≡ true → f m ≡ 0) → greatest_of test f n ≡ 0
  greatest_none n h = elim (greatest_met n) [ inl z ↦ z | inr t ↦ t.3 ∙ h t.0 t.1 t.2 ]
