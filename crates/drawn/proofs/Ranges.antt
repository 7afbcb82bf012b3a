-- What edits keep of the ranges of rows and moves.
use Rattle.std.specs.Prelude.{ℕ, zero, suc, ◌+◌, ◌<◌, ◌≤◌, ◌↔◌, List, [], ◌∷◌, take, drop, nat_le, nat_lt}
use Rattle.std.proofs.Common.{arith}
use Rattle.std.specs.Bool.{IsTrue}
use Rattle.std.specs.List.{All, insert, remove}
use Rattle.std.proofs.lemmas.Bool.{and_from, lt-ltb, le-leb}
use Rattle.std.proofs.lemmas.List.Elements.{All-cons, All-head, All-tail, All-append, All-take, All-drop, All-weaker}
use Rattle.chart.specs.declared.parts.Move.{Move}
use Rattle.drawn.specs.declared.row.Row.{Row}
use Rattle.drawn.specs.Rows.{row_ranged, move_ranged, laid_out, with_start}
use Rattle.drawn.specs.Rules.{adjusted}
use Rattle.drawn.specs.Readings.{move_facts}

module _ {A : Type 0} (P : A → Type 0) where
  pub all_inserted : (xs : List A) (i : ℕ) (x : A) → All P xs → P x → All P (insert xs i x)
  all_inserted xs i x h k = All-append P (take i xs) (x ∷ drop i xs) (All-take P i xs h) (All-cons P x (drop i xs) k (All-drop P i xs h))

  pub all_removed : (xs : List A) (i : ℕ) → All P xs → All P (remove xs i)
  all_removed xs i h = All-append P (take i xs) (drop (suc i) xs) (All-take P i xs h) (All-drop P (suc i) xs h)

  pub all_adjusted : (f : A → A) → ((x : A) → P x → P (f x)) → (xs : List A) (i : ℕ) → All P xs → All P (adjusted f xs i)
  all_adjusted f keeps [] i h = h
  all_adjusted f keeps (x ∷ xs) zero h = All-cons P (f x) xs (keeps x (All-head P x xs h)) (All-tail P x xs h)
  all_adjusted f keeps (x ∷ xs) (suc i) h = All-cons P x (adjusted f xs i) (All-head P x xs h) (all_adjusted f keeps xs i (All-tail P x xs h))

-- where the moves lie does not touch the colours
pub tinted_laid_out : (k : ℕ) (rs : List Row) → All (λ r. IsTrue (row_ranged r)) (laid_out k rs) ↔ All (λ r. IsTrue (row_ranged r)) rs
tinted_laid_out k [] = (λ h. h, λ h. h)
tinted_laid_out k (r ∷ rs) =
    let P : Row → Type 0 = λ x. IsTrue (row_ranged x) in
    let rest = tinted_laid_out (k + r.degree) rs in (
      λ h. All-cons P r rs (All-head P (with_start k r) (laid_out (k + r.degree) rs) h) (rest.0 (All-tail P (with_start k r) (laid_out (k + r.degree) rs) h)),
      λ h. All-cons P (with_start k r) (laid_out (k + r.degree) rs) (All-head P r rs h) (rest.1 (All-tail P r rs h)),
    )

pub move_ranged_is : (n : ℕ) (m : Move) → m.target < n → m.cost ≤ 10000 → IsTrue (move_ranged n m)
move_ranged_is n m t c = and_from (nat_lt m.target n) (nat_le m.cost 10000) (lt-ltb m.target n t) (le-leb m.cost 10000 c)

-- among more vertices the moves are still in range
pub more_vertices : (n : ℕ) (ms : List Move) → All (λ m. IsTrue (move_ranged n m)) ms → All (λ m. IsTrue (move_ranged (n + 1) m)) ms
more_vertices n ms = All-weaker (λ m. IsTrue (move_ranged n m)) (λ m. IsTrue (move_ranged (n + 1) m)) (λ m h. let f = move_facts n m h in move_ranged_is (n + 1) m (omega arith) f.cost) ms
