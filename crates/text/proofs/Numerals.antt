-- Numbers at the front of some bytes: where their digits end, and that one number only stands there.
use Rattle.std.proofs.Common.{◌≡◌, ℕ, zero, suc, ◌+◌, ◌-◌, ◌*◌, ◌^◌, ◌<◌, ◌≤◌, Bool, true, false, cond, leb, List, [], ◌∷◌, ◌++◌, length, get_or, take, drop, decimal, sym, refl, ap, ◌∙◌, ap₂, inl, inr, one-add, arith, rules}
use Rattle.std.specs.Char.{is_ascii_digit}
use Rattle.std.specs.List.{prefix_len}
use Rattle.std.specs.Str.{all_ascii_digits}
use Rattle.std.proofs.lemmas.Fmt.{decimal-digits_value, decimal_digit, digits_decimal, decimal_nonempty, length-decimal-le, first_decimal, decimal_injective}
use Rattle.std.proofs.lemmas.Str.Parse.{IsNumeralModel, numerals_by_fold, digits_value_short}
use Rattle.std.proofs.lemmas.List.{take_at, drop_at, take-append-drop, at_drop_more}
use Rattle.std.proofs.lemmas.Bool.{and_parts, and_from, cases_lt, leb-true}
use Rattle.text.specs.Tokens.{NoDigit, Numbered, value_of}

own : IsNumeralModel (λ ds. all_ascii_digits ds ≡ true) (value_of 0)
own = numerals_by_fold _ (search rules) value_of (search rules)

value_grows : (n : ℕ) (cs : List ℕ) → n ≤ value_of n cs
value_grows n [] = omega arith
value_grows n (c ∷ cs) = omega (arith, value_grows (n * 10 + (c - 48)) cs)

digits_lead : (bs : List ℕ) → all_ascii_digits (take (prefix_len is_ascii_digit bs) bs) ≡ true
digits_lead [] = refl
digits_lead (c ∷ cs) = go (is_ascii_digit c) refl (digits_lead cs)
  where
    go : (t : Bool) → is_ascii_digit c ≡ t → all_ascii_digits (take (prefix_len is_ascii_digit cs) cs) ≡ true → all_ascii_digits (take (cond t (1 + prefix_len is_ascii_digit cs) 0) (c ∷ cs)) ≡ true
    go true e more = ap (λ n. all_ascii_digits (take n (c ∷ cs))) (one-add (prefix_len is_ascii_digit cs)) ∙ and_from (is_ascii_digit c) (all_ascii_digits (take (prefix_len is_ascii_digit cs) cs)) e more
    go false e more = refl

digits_end : (bs : List ℕ) → NoDigit (drop (prefix_len is_ascii_digit bs) bs)
digits_end [] = tt
digits_end (c ∷ cs) = go (is_ascii_digit c) refl (digits_end cs)
  where
    go : (t : Bool) → is_ascii_digit c ≡ t → NoDigit (drop (prefix_len is_ascii_digit cs) cs) → NoDigit (drop (cond t (1 + prefix_len is_ascii_digit cs) 0) (c ∷ cs))
    go true e more = rw (one-add (prefix_len is_ascii_digit cs)) more
    go false e more = e

leads : (ds rest : List ℕ) → all_ascii_digits ds ≡ true → NoDigit rest → prefix_len is_ascii_digit (ds ++ rest) ≡ length ds
leads [] [] a e = refl
leads [] (c ∷ cs) a e = ap (λ t. cond t (1 + prefix_len is_ascii_digit cs) 0) e
leads (d ∷ ds) rest a e =
    let p = and_parts (is_ascii_digit d) (all_ascii_digits ds) a in
    ap (λ t. cond t (1 + prefix_len is_ascii_digit (ds ++ rest)) 0) p.0 ∙ one-add (prefix_len is_ascii_digit (ds ++ rest)) ∙ ap suc (leads ds rest p.1 e)

-- the run of digits at the front of some bytes, and what stands behind it
pub record Runs (bytes run rest : List ℕ) : Type 0 where
  pub front : run ≡ take (prefix_len is_ascii_digit bytes) bytes
  pub back : rest ≡ drop (prefix_len is_ascii_digit bytes) bytes

pub runs : (bytes run rest : List ℕ) (k : ℕ) → k ≡ prefix_len is_ascii_digit bytes → run ≡ take k bytes → rest ≡ drop k bytes → Runs bytes run rest
runs bytes run rest k is front back = record { front = rw (sym is) front; back = rw (sym is) back }

-- where a number stands, the run is its digits
module _ (bytes run rest : List ℕ) (r : Runs bytes run rest) (n : ℕ) (other : List ℕ) (here : Numbered bytes n other) where
  wide : n < 2 ^ 64
  wide = omega (arith, here.small)

  long : prefix_len is_ascii_digit bytes ≡ length (decimal n)
  long = ap (prefix_len is_ascii_digit) here.is ∙ leads (decimal n) other (digits_decimal own n wide) here.ends

  run_is : run ≡ decimal n
  run_is = r.front ∙ ap (take (prefix_len is_ascii_digit bytes)) here.is ∙ take_at (decimal n) other (prefix_len is_ascii_digit bytes) (sym long)

  rest_is : rest ≡ other
  rest_is = r.back ∙ ap (drop (prefix_len is_ascii_digit bytes)) here.is ∙ drop_at (decimal n) other (prefix_len is_ascii_digit bytes) (sym long)

  pub run_some : 0 < length run
  run_some = omega (arith, ap length run_is, decimal_nonempty n wide)

  pub run_short : length run ≤ 5
  run_short = omega (arith, ap length run_is, length-decimal-le 5 n (omega arith) (omega (arith, here.small)) wide)

  pub run_plain : 1 < length run → get_or run 0 0 ≡ 48 → ⊥
  run_plain h e = positive n refl
    where
      positive : (m : ℕ) → n ≡ m → ⊥
      positive zero z = omega (arith, ap length run_is, ap length (decimal_digit n (omega arith)))
      positive (suc m) z = omega (arith, first_decimal n (omega arith) wide, ap (λ t. get_or t 0 0) run_is)

-- one number only stands at the front
pub one_number : (bytes : List ℕ) (n m : ℕ) (rest other : List ℕ) → Numbered bytes n rest → Numbered bytes m other → (n ≡ m) × (rest ≡ other)
one_number bytes n m rest other a b =
    let r : Runs bytes (take (prefix_len is_ascii_digit bytes) bytes) (drop (prefix_len is_ascii_digit bytes) bytes) = record { front = refl; back = refl } in (
      decimal_injective n m (omega (arith, a.small)) (omega (arith, b.small)) (sym (run_is bytes _ _ r n rest a) ∙ run_is bytes _ _ r m other b),
      sym (rest_is bytes _ _ r n rest a) ∙ rest_is bytes _ _ r m other b,
    )

-- a run of one to five digits, with no leading zero but 0 itself, is a number
module _ (bytes run rest : List ℕ) (r : Runs bytes run rest) where
  pub run_digits : all_ascii_digits run ≡ true
  run_digits = ap all_ascii_digits r.front ∙ digits_lead bytes

  pub run_numbered : 0 < length run → length run ≤ 5 → (1 < length run → get_or run 0 0 ≡ 48 → ⊥) → Numbered bytes (value_of 0 run) rest
  run_numbered some few plain =
      let small : value_of 0 run < 100000 = digits_value_short own run 5 run_digits few in
      record {
        small = small;
        ends = rw r.back (digits_end bytes);
        is = sym (take-append-drop (prefix_len is_ascii_digit bytes) bytes) ∙ ap₂ (λ a b. a ++ b) (sym r.front) (sym r.back)
            ∙ ap (λ t. t ++ rest) (sym (decimal-digits_value own run run_digits some lone (omega arith)));
      }
    where
      lone : get_or run 0 0 ≡ 48 → length run ≡ 1
      lone e = elim (cases_lt 1 (length run)) [
        | inl h ↦ absurd (plain h e)
        | inr h ↦ omega arith
      ]

-- one turn of the loop that reads digits
module _ (digits : List ℕ) (all : all_ascii_digits digits ≡ true) (few : length digits ≤ 5) (number i : ℕ) (h : i < length digits) (inv : value_of number (drop i digits) ≡ value_of 0 digits) where
  step : value_of (number * 10 + (get_or digits i 0 - 48)) (drop (i + 1) digits) ≡ value_of 0 digits
  step = sym (at_drop_more (value_of number) digits i 0 h) ∙ inv

  pub value_more : value_of (number * 10 + (get_or digits i 0 - 48)) (drop (i + 1) digits) ≡ value_of 0 digits
  value_more = step

  pub value_fits : number * 10 + (get_or digits i 0 - 48) < 100000
  value_fits = omega (arith, step, value_grows (number * 10 + (get_or digits i 0 - 48)) (drop (i + 1) digits), digits_value_short own digits 5 all few)

-- each of some digits is at least the digit 0
pub digit_low : (digits : List ℕ) (i : ℕ) → all_ascii_digits digits ≡ true → i < length digits → 48 ≤ get_or digits i 0
digit_low [] i a h = absurd (omega arith)
digit_low (d ∷ ds) zero a h = leb-true 48 d (and_parts (leb 48 d) (leb d 57) (and_parts (is_ascii_digit d) (all_ascii_digits ds) a).0).0
digit_low (d ∷ ds) (suc i) a h = digit_low ds i (and_parts (is_ascii_digit d) (all_ascii_digits ds) a).1 (omega arith)
