-- The entries of a tally, after an arrival and as the calls read them.
use Rattle.std.proofs.Common.{◌≡◌, ℕ, Option, Some, None, zero, suc, ◌+◌, ◌-◌, ◌*◌, ◌<◌, ◌≤◌, max, List, [], ◌∷◌, length, get_or, replicate, cond, eqb, subst, inl, inr, sym, refl, ap, ◌∙◌, arith}
use Rattle.std.proofs.lemmas.List.{ext_get_or}
use Rattle.std.proofs.lemmas.Bool.{cases_lt}
use Rattle.std.proofs.lemmas.Bool.Decides.{nat_tests}
use Rattle.std.proofs.lemmas.Simd.{splat_is_map}
use Rattle.std.specs.List.{fold}
use Rattle.helm.specs.Tally.{met, arrived, cleared, longest, highest_open}

pub length_arrived : (k q : ℕ) (xs : List ℕ) → length (arrived k q xs) ≡ length xs
length_arrived k q [] = refl
length_arrived k q (x ∷ xs) = ap suc (length_arrived k (q + 2) xs)

pub get_or_arrived : (k q : ℕ) (xs : List ℕ) (i : ℕ) → i < length xs → get_or (arrived k q xs) i 0 ≡ met k (2 * i + q) (get_or xs i 0)
get_or_arrived k q [] i h = absurd (omega arith)
get_or_arrived k q (x ∷ xs) zero h = let e : q ≡ 2 * 0 + q = omega arith in ap (λ n. met k n x) e
get_or_arrived k q (x ∷ xs) (suc i) h =
    let e : 2 * i + (q + 2) ≡ 2 * suc i + q = omega arith in
    get_or_arrived k (q + 2) xs i (omega arith) ∙ ap (λ n. met k n (get_or xs i 0)) e

pub arrived_is : (k : ℕ) (xs ys : List ℕ) → length ys ≡ length xs → ((i : ℕ) → i < length xs → get_or ys i 0 ≡ met k (2 * i + 1) (get_or xs i 0)) → ys ≡ arrived k 1 xs
arrived_is k xs ys l h = ext_get_or 0 ys (arrived k 1 xs) (l ∙ sym (length_arrived k 1 xs)) (λ i m. h i (omega arith) ∙ sym (get_or_arrived k 1 xs i (omega arith)))

-- where all entries are written over by 0
pub cleared_is : (xs : List ℕ) → replicate (length xs) 0 ≡ cleared xs
cleared_is xs = splat_is_map xs (length xs) 0 refl

pub longest_by_fold : (xs : List ℕ) → fold (λ b x. max b (x - 1)) 0 xs ≡ longest xs
longest_by_fold xs = go 0 xs ∙ (omega arith)
  where
    go : (a : ℕ) (xs : List ℕ) → fold (λ b x. max b (x - 1)) a xs ≡ max a (longest xs)
    go a [] = omega arith
    go a (x ∷ xs) = let e = go (max a (x - 1)) xs in omega arith

pub highest_open_over : (q : ℕ) (xs : List ℕ) (i : ℕ) → i < length xs → 0 < get_or xs i 0 → 2 * i + q ≤ highest_open q xs
highest_open_over q [] i h k = absurd (omega arith)
highest_open_over q (x ∷ xs) zero h k = let e : cond (eqb x 0) 0 q ≡ q = grind (arith, nat_tests) in omega arith
highest_open_over q (x ∷ xs) (suc i) h k = let r = highest_open_over (q + 2) xs i (omega arith) k in omega arith

-- the entry of the highest open colour
pub record Open (q : ℕ) (xs : List ℕ) (top : ℕ) : Type 0 where
  pub at : ℕ
  pub low : at < length xs
  pub is : top ≡ 2 * at + q
  pub waits : 0 < get_or xs at 0

pub highest_open_met : (q : ℕ) (xs : List ℕ) → 0 < highest_open q xs → Open q xs (highest_open q xs)
highest_open_met q [] h = absurd (omega arith)
highest_open_met q (x ∷ xs) h = go x (highest_open (q + 2) xs) (highest_open_met (q + 2) xs) h
  where
    rest : (x top : ℕ) → Open (q + 2) xs top → Open q (x ∷ xs) top
    rest x top o = record { at = suc o.at; low = (let l = o.low in omega arith); is = (let e = o.is in omega arith); waits = o.waits }

    go : (x top : ℕ) → (0 < top → Open (q + 2) xs top) → 0 < max (cond (eqb x 0) 0 q) top → Open q (x ∷ xs) (max (cond (eqb x 0) 0 q) top)
    go zero top o h = let e : top ≡ max 0 top = omega arith in subst (Open q (zero ∷ xs)) e (rest zero top (o (omega arith)))
    go (suc x) top o h =
        let c : cond (eqb (suc x) 0) 0 q ≡ q = grind (arith, nat_tests) in
        elim (cases_lt q top) [
          | inl l ↦ let e : top ≡ max (cond (eqb (suc x) 0) 0 q) top = omega arith in subst (Open q (suc x ∷ xs)) e (rest (suc x) top (o (omega arith)))
          | inr l ↦ record { at = 0; low = omega arith; is = omega arith; waits = omega arith }
        ]

-- the colour of the last entry that waits, where one does
pub record LastWaits (xs : List ℕ) (n i : ℕ) : Type 0 where
  pub within : i < length xs
  pub waits : 0 < get_or xs i 0
  pub others : (j : ℕ) → i < j → j < length xs → get_or xs j 0 ≡ 0
  pub colour : n ≡ 2 * i + 1

pub highest_is : (xs : List ℕ) (n : ℕ) (last : Option ℕ) → ((i : ℕ) → last ≡ Some i → LastWaits xs n i) →
    (last ≡ None → (n ≡ 0) × ((j : ℕ) → j < length xs → get_or xs j 0 ≡ 0)) → n ≡ highest_open 1 xs
highest_is xs n (Some i) some none =
    let x = some i refl in
    let up = highest_open_over 1 xs i x.within x.waits in
    let o = highest_open_met 1 xs (omega arith) in
    elim (cases_lt i o.at) [ inl l ↦ let z = x.others o.at l o.low in omega (arith, o.waits) | inr l ↦ omega (arith, x.colour, o.is) ]
highest_is xs n None some none = elim (cases_lt 0 (highest_open 1 xs)) [
  | inl l ↦ let o = highest_open_met 1 xs l in let z = (none refl).1 o.at o.low in omega (arith, o.waits)
  | inr l ↦ omega (arith, (none refl).0)
]
