-- A list with one element changed.
use Rattle.std.proofs.Common.{◌≡◌, ℕ, zero, suc, ◌<◌, ◌≤◌, List, [], ◌∷◌, length, get_or, take, set, refl, ap, arith}
use Rattle.drawn.specs.Rules.{adjusted}

module _ {A : Type 0} (f : A → A) where
  pub length_adjusted : (xs : List A) (i : ℕ) → length (adjusted f xs i) ≡ length xs
  length_adjusted [] i = refl
  length_adjusted (x ∷ xs) zero = refl
  length_adjusted (x ∷ xs) (suc i) = ap suc (length_adjusted xs i)

  -- a write within the first n
  pub take_set_adjusted : (n : ℕ) (xs : List A) (i : ℕ) (d : A) → i < n → n ≤ length xs → take n (set xs i (f (get_or xs i d))) ≡ adjusted f (take n xs) i
  take_set_adjusted zero xs i d h l = absurd (omega arith)
  take_set_adjusted (suc n) [] i d h l = absurd (omega arith)
  take_set_adjusted (suc n) (x ∷ xs) zero d h l = refl
  take_set_adjusted (suc n) (x ∷ xs) (suc i) d h l = ap (λ t. x ∷ t) (take_set_adjusted n xs i d (omega arith) (omega arith))
