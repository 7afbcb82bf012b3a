-- Rows whose moves lie one behind the other.
use Rattle.std.specs.Prelude.{◌≡◌, ℕ, zero, suc, ◌+◌, ◌<◌, ◌≤◌, true, List, [], ◌∷◌, ◌++◌, length, get_or, take, drop, Some, ◌==◌, slice_index_or, slice_set, refl}
use Rattle.std.proofs.Common.{sym, ap, ◌∙◌, arith, add_assoc, add-zero, length-take-le}
use Rattle.std.proofs.lemmas.List.{append_assoc, append-nil, drop_more, drop_all, take_more, take_all, get_or_at, set_at}
use Rattle.std.specs.List.{slice_get}
use Rattle.std.proofs.lemmas.Bool.{and_parts, and_from, eqb-true, eq-eqb}
use Rattle.drawn.specs.declared.row.Row.{Row}
use Rattle.drawn.specs.Rows.{total, laid_out, laid, with_start, with_degree}
use Rattle.drawn.specs.Rules.{adjusted}

pub laid_out_push : (k : ℕ) (rs : List Row) (r : Row) → laid_out k (rs ++ r ∷ []) ≡ laid_out k rs ++ with_start (k + total rs) r ∷ []
laid_out_push k [] r = ap (λ n. with_start n r ∷ []) (sym (add-zero k))
laid_out_push k (x ∷ rs) r = ap (λ t. with_start k x ∷ t) (laid_out_push (k + x.degree) rs r ∙ ap (λ n. laid_out (k + x.degree) rs ++ with_start n r ∷ []) (add_assoc k x.degree (total rs)))

pub total_push : (rs : List Row) (r : Row) → total (rs ++ r ∷ []) ≡ total rs + r.degree
total_push [] r = omega arith
total_push (x ∷ rs) r = omega (arith, total_push rs r)

pub length_laid_out : (k : ℕ) (rs : List Row) → length (laid_out k rs) ≡ length rs
length_laid_out k [] = refl
length_laid_out k (r ∷ rs) = ap suc (length_laid_out (k + r.degree) rs)

-- one turn of the loop that lays rows out: the first i are done
module _ (rs done : List Row) (next i : ℕ) (d : Row) (sum : next ≡ total (take i rs)) (is : done ≡ laid_out 0 (take i rs) ++ drop i rs) where
  module _ (h : i < length rs) where
    front_length : length (laid_out 0 (take i rs)) ≡ i
    front_length = length_laid_out 0 (take i rs) ∙ length-take-le i rs (omega arith)

    opened : done ≡ laid_out 0 (take i rs) ++ slice_index_or rs i d ∷ drop (i + 1) rs
    opened = is ∙ ap (λ t. laid_out 0 (take i rs) ++ t) (drop_more rs i d h)

    pub looked_at : get_or done i d ≡ slice_index_or rs i d
    looked_at = ap (λ t. get_or t i d) opened ∙ get_or_at (laid_out 0 (take i rs)) (slice_index_or rs i d) (drop (i + 1) rs) d i front_length

    pub sum_more : next + (get_or done i d).degree ≡ total (take (i + 1) rs)
    sum_more = omega (arith, sum, ap (λ r. r.degree) looked_at, ap total (take_more rs i d h), total_push (take i rs) (slice_index_or rs i d))

    pub laid_more : slice_set done i (with_start next (slice_index_or done i d)) ≡ laid_out 0 (take (i + 1) rs) ++ drop (i + 1) rs
    laid_more =
        let start : next ≡ 0 + total (take i rs) = omega arith in
        ap (λ r. slice_set done i (with_start next r)) looked_at
        ∙ ap (λ t. slice_set t i (with_start next (slice_index_or rs i d))) opened
        ∙ set_at (laid_out 0 (take i rs)) (slice_index_or rs i d) (drop (i + 1) rs) (with_start next (slice_index_or rs i d)) i front_length
        ∙ ap (λ n. laid_out 0 (take i rs) ++ with_start n (slice_index_or rs i d) ∷ drop (i + 1) rs) start
        ∙ sym (append_assoc (laid_out 0 (take i rs)) (with_start (0 + total (take i rs)) (slice_index_or rs i d) ∷ []) (drop (i + 1) rs))
        ∙ ap (λ t. t ++ drop (i + 1) rs) (sym (laid_out_push 0 (take i rs) (slice_index_or rs i d)) ∙ ap (laid_out 0) (sym (take_more rs i d h)))

  pub laid_all : length rs ≤ i → done ≡ laid_out 0 rs
  laid_all h = is ∙ ap (λ t. laid_out 0 (take i rs) ++ t) (drop_all i rs h) ∙ append-nil (laid_out 0 (take i rs)) ∙ ap (laid_out 0) (take_all i rs h)

-- part of the rows has no more moves than all
pub total_front : (i : ℕ) (rs : List Row) → total (take i rs) ≤ total rs
total_front zero rs = omega arith
total_front (suc i) [] = omega arith
total_front (suc i) (r ∷ rs) = omega (arith, total_front i rs)

-- rows that were laid out are laid
pub laid_out_laid : (k : ℕ) (rs : List Row) → laid k (laid_out k rs) (k + total rs) ≡ true
laid_out_laid k [] = eq-eqb k (k + 0) (omega arith)
laid_out_laid k (r ∷ rs) =
    and_from (k == k) (laid (k + r.degree) (laid_out (k + r.degree) rs) (k + (r.degree + total rs))) (eq-eqb k k refl)
    (ap (laid (k + r.degree) (laid_out (k + r.degree) rs)) (sym (add_assoc k r.degree (total rs))) ∙ laid_out_laid (k + r.degree) rs)

-- where the rows end, and where a row's moves start
pub laid_end : (k : ℕ) (rs : List Row) (e : ℕ) → laid k rs e ≡ true → k + total rs ≡ e
laid_end k [] e h = omega (arith, eqb-true k e h)
laid_end k (r ∷ rs) e h = let p = and_parts (r.start == k) (laid (k + r.degree) rs e) h in omega (arith, laid_end (k + r.degree) rs e p.1)

pub laid_start : (k : ℕ) (rs : List Row) (e i : ℕ) (r : Row) → laid k rs e ≡ true → slice_get rs i ≡ Some r → r.start ≡ k + total (take i rs)
laid_start k [] e i r h is = cc
laid_start k (x ∷ rs) e zero r h is =
    let same : x ≡ r = cc in
    let p = and_parts (x.start == k) (laid (k + x.degree) rs e) h in
    omega (arith, ap (λ y. y.start) same, eqb-true x.start k p.0)
laid_start k (x ∷ rs) e (suc i) r h is =
    let p = and_parts (x.start == k) (laid (k + x.degree) rs e) h in
    omega (arith, laid_start (k + x.degree) rs e i r p.1 is)

-- one more row, without moves, at the end
pub laid_push : (k : ℕ) (rs : List Row) (e : ℕ) (r : Row) → laid k rs e ≡ true → r.start ≡ e → r.degree ≡ 0 → laid k (rs ++ r ∷ []) e ≡ true
laid_push k [] e r h s z = and_from (r.start == k) (k + r.degree == e) (eq-eqb r.start k (omega (arith, eqb-true k e h))) (eq-eqb (k + r.degree) e (omega (arith, eqb-true k e h)))
laid_push k (x ∷ rs) e r h s z =
    let p = and_parts (x.start == k) (laid (k + x.degree) rs e) h in
    and_from (x.start == k) (laid (k + x.degree) (rs ++ r ∷ []) e) p.0 (laid_push (k + x.degree) rs e r p.1 s z)

-- how many moves there are once one row has another number of them
pub total_resized : (rs : List Row) (i : ℕ) (r : Row) (k : ℕ) → slice_get rs i ≡ Some r → total (adjusted (with_degree k) rs i) + r.degree ≡ total rs + k
total_resized [] i r k e = cc
total_resized (x ∷ rs) zero r k e = let same : x ≡ r = cc in omega (arith, ap (λ y. y.degree) same)
total_resized (x ∷ rs) (suc i) r k e = omega (arith, total_resized rs i r k e)
