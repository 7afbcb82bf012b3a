-- How an edit of the arrays changes the vertices that they stand for.
use Rattle.std.specs.Prelude.{◌≡◌, ℕ, zero, suc, ◌+◌, ◌-◌, ◌<◌, ◌≤◌, List, [], ◌∷◌, ◌++◌, length, take, drop, Some, None, Option, refl}
use Rattle.std.proofs.Common.{sym, ap, ap₂, ◌∙◌, append_assoc, arith, add_assoc, zero-add, length-drop, length-take-le}
use Rattle.std.specs.Option.{option_map}
use Rattle.std.specs.List.{insert, remove, slice_get}
use Rattle.std.proofs.lemmas.List.{take_at, drop_at, take-take, drop-append-le, drop-drop, drop-take, take-append-drop, length_push, take-append-le}
use Rattle.std.proofs.lemmas.List.Edits.{length-remove}
use Rattle.chart.specs.declared.parts.Move.{Move}
use Rattle.chart.specs.Arena.{Vertex}
use Rattle.chart.specs.Players.{numbered}
use Rattle.drawn.specs.declared.row.Row.{Row}
use Rattle.drawn.specs.Rows.{vertices_of, total, laid_out, with_degree}
use Rattle.drawn.specs.Rules.{adjusted, move_count, with_move, without_move}

-- the vertex of a row that has the moves ms
abbrev pub vertex_with : Row → List Move → Vertex
vertex_with r ms = record { owner = numbered r.owner; colour = r.colour; moves = ms }

pub vertices_push : (rs : List Row) (r : Row) (ms : List Move) → r.degree ≡ 0 → vertices_of (rs ++ r ∷ []) ms ≡ vertices_of rs ms ++ vertex_with r [] ∷ []
vertices_push [] r ms e = ap (λ k. vertex_with r (take k ms) ∷ []) e
vertices_push (x ∷ rs) r ms e = ap (λ vs. vertex_with x (take x.degree ms) ∷ vs) (vertices_push rs r (drop x.degree ms) e)

-- where the moves lie is of no account
pub vertices_laid_out : (k : ℕ) (rs : List Row) (ms : List Move) → vertices_of (laid_out k rs) ms ≡ vertices_of rs ms
vertices_laid_out k [] ms = refl
vertices_laid_out k (r ∷ rs) ms = ap (λ vs. vertex_with r (take r.degree ms) ∷ vs) (vertices_laid_out (k + r.degree) rs (drop r.degree ms))

pub count_vertices : (rs : List Row) (ms : List Move) → total rs ≤ length ms → move_count (vertices_of rs ms) ≡ total rs
count_vertices [] ms h = refl
count_vertices (r ∷ rs) ms h = omega (arith, length-take-le r.degree ms (omega arith), count_vertices rs (drop r.degree ms) (omega (arith, length-drop r.degree ms)))

-- the vertex of each row: its moves stand behind those of the rows before it
pub nth_vertices : (rs : List Row) (ms : List Move) (k : ℕ) → slice_get (vertices_of rs ms) k ≡ option_map (λ r. vertex_with r (take r.degree (drop (total (take k rs)) ms))) (slice_get rs k)
nth_vertices [] ms k = refl
nth_vertices (x ∷ rs) ms zero = refl
nth_vertices (x ∷ rs) ms (suc k) =
    nth_vertices rs (drop x.degree ms) k ∙ by_row (slice_get rs k)
  where
    by_row : (o : Option Row) →
        option_map (λ r. vertex_with r (take r.degree (drop (total (take k rs)) (drop x.degree ms)))) o
        ≡ option_map (λ r. vertex_with r (take r.degree (drop (x.degree + total (take k rs)) ms))) o
    by_row None = refl
    by_row (Some r) = ap (λ t. Some (vertex_with r (take r.degree t))) (drop-drop (total (take k rs)) x.degree ms)

module _ {A : Type 0} (ms : List A) (m : A) where
  -- an insertion past the first d leaves them, and is one in the rest
  take_inserted : (d o : ℕ) → d + o ≤ length ms → take d (insert ms (d + o) m) ≡ take d ms
  take_inserted d o h = take-append-le d (take (d + o) ms) (m ∷ drop (d + o) ms) (omega (arith, length-take-le (d + o) ms h)) ∙ take-take d (d + o) ms (omega arith)

  drop_inserted : (d o : ℕ) → d + o ≤ length ms → drop d (insert ms (d + o) m) ≡ insert (drop d ms) o m
  drop_inserted d o h =
      drop-append-le d (take (d + o) ms) (m ∷ drop (d + o) ms) (omega (arith, length-take-le (d + o) ms h))
      ∙ ap₂ (λ a b. a ++ m ∷ b) (drop-take d o ms) (sym (drop-drop o d ms))

  -- one right behind the first d is the last of d + 1
  opened : (d : ℕ) → insert ms d m ≡ (take d ms ++ m ∷ []) ++ drop d ms
  opened d = sym (append_assoc (take d ms) (m ∷ []) (drop d ms))

  front_length : (d : ℕ) → d ≤ length ms → length (take d ms ++ m ∷ []) ≡ d + 1
  front_length d h = length_push (take d ms) m ∙ ap (λ n. n + 1) (length-take-le d ms h)

  take_inserted_last : (d : ℕ) → d ≤ length ms → take (d + 1) (insert ms d m) ≡ take d ms ++ m ∷ []
  take_inserted_last d h = ap (take (d + 1)) (opened d) ∙ take_at (take d ms ++ m ∷ []) (drop d ms) (d + 1) (front_length d h)

  drop_inserted_last : (d : ℕ) → d ≤ length ms → drop (d + 1) (insert ms d m) ≡ drop d ms
  drop_inserted_last d h = ap (drop (d + 1)) (opened d) ∙ drop_at (take d ms ++ m ∷ []) (drop d ms) (d + 1) (front_length d h)

-- the moves of a row end among those of all rows
pub ends_within : (rs : List Row) (k : ℕ) (r : Row) → slice_get rs k ≡ Some r → total (take k rs) + r.degree ≤ total rs
ends_within [] k r e = cc
ends_within (x ∷ rs) zero r e = let same : x ≡ r = cc in omega (arith, ap (λ y. y.degree) same)
ends_within (x ∷ rs) (suc k) r e = omega (arith, ends_within rs k r e)

-- a move more at the vertex k, behind its others
pub vertices_joined : (rs : List Row) (ms : List Move) (m : Move) (k : ℕ) (r : Row) → slice_get rs k ≡ Some r → total rs ≤ length ms →
    vertices_of (adjusted (with_degree (r.degree + 1)) rs k) (insert ms (total (take k rs) + r.degree) m) ≡ adjusted (with_move m) (vertices_of rs ms) k
vertices_joined [] ms m k r e h = cc
vertices_joined (x ∷ rs) ms m zero r e h =
    let same : x ≡ r = cc in
    let low : r.degree ≤ length ms = omega (arith, ap (λ y. y.degree) same) in
    ap (λ n. vertex_with x (take (r.degree + 1) (insert ms n m)) ∷ vertices_of rs (drop (r.degree + 1) (insert ms n m))) (zero-add r.degree)
    ∙ ap₂ (λ a b. vertex_with x a ∷ vertices_of rs b) (take_inserted_last ms m r.degree low) (drop_inserted_last ms m r.degree low)
    ∙ ap (λ y. vertex_with x (take y.degree ms ++ m ∷ []) ∷ vertices_of rs (drop y.degree ms)) (sym same)
vertices_joined (x ∷ rs) ms m (suc k) r e h =
    let o : ℕ = total (take k rs) + r.degree in
    let within : x.degree + o ≤ length ms = omega (arith, ends_within rs k r e) in
    ap (λ n. vertex_with x (take x.degree (insert ms n m)) ∷ vertices_of (adjusted (with_degree (r.degree + 1)) rs k) (drop x.degree (insert ms n m))) (add_assoc x.degree (total (take k rs)) r.degree)
    ∙ ap₂ (λ a b. vertex_with x a ∷ vertices_of (adjusted (with_degree (r.degree + 1)) rs k) b) (take_inserted ms m x.degree o within) (drop_inserted ms m x.degree o within)
    ∙ ap (λ vs. vertex_with x (take x.degree ms) ∷ vs) (vertices_joined rs (drop x.degree ms) m k r e (omega (arith, length-drop x.degree ms)))

module _ {A : Type 0} (ms : List A) where
  -- taking one out past the first d leaves them, and takes it out of the rest
  take_removed : (d o : ℕ) → d + o ≤ length ms → take d (remove ms (d + o)) ≡ take d ms
  take_removed d o h = take-append-le d (take (d + o) ms) (drop (suc (d + o)) ms) (omega (arith, length-take-le (d + o) ms h)) ∙ take-take d (d + o) ms (omega arith)

  drop_removed : (d o : ℕ) → d + o ≤ length ms → drop d (remove ms (d + o)) ≡ remove (drop d ms) o
  drop_removed d o h =
      let next : suc (d + o) ≡ d + suc o = omega arith in
      drop-append-le d (take (d + o) ms) (drop (suc (d + o)) ms) (omega (arith, length-take-le (d + o) ms h))
      ∙ ap₂ (λ a b. a ++ b) (drop-take d o ms) (ap (λ n. drop n ms) next ∙ sym (drop-drop (suc o) d ms))

  -- taking one out of the first d
  module _ (d i : ℕ) (h : i < d) (l : d ≤ length ms) where
    halved : remove ms i ≡ remove (take d ms) i ++ drop d ms
    halved =
        ap₂ (λ a b. a ++ b) (sym (take-take i d ms (omega arith)))
        (ap (drop (suc i)) (sym (take-append-drop d ms)) ∙ drop-append-le (suc i) (take d ms) (drop d ms) (omega (arith, length-take-le d ms l)))
        ∙ sym (append_assoc (take i (take d ms)) (drop (suc i) (take d ms)) (drop d ms))

    rest_length : length (remove (take d ms) i) ≡ d - 1
    rest_length = let long = length-take-le d ms l in omega (arith, length-remove (take d ms) i (omega arith))

    take_removed_in : take (d - 1) (remove ms i) ≡ remove (take d ms) i
    take_removed_in = ap (take (d - 1)) halved ∙ take_at (remove (take d ms) i) (drop d ms) (d - 1) rest_length

    drop_removed_in : drop (d - 1) (remove ms i) ≡ drop d ms
    drop_removed_in = ap (drop (d - 1)) halved ∙ drop_at (remove (take d ms) i) (drop d ms) (d - 1) rest_length

-- the move i of the vertex k less
pub vertices_struck : (rs : List Row) (ms : List Move) (k i : ℕ) (r : Row) → slice_get rs k ≡ Some r → i < r.degree → total rs ≤ length ms →
    vertices_of (adjusted (with_degree (r.degree - 1)) rs k) (remove ms (total (take k rs) + i)) ≡ adjusted (without_move i) (vertices_of rs ms) k
vertices_struck [] ms k i r e g h = cc
vertices_struck (x ∷ rs) ms zero i r e g h =
    let same : x ≡ r = cc in
    let low : r.degree ≤ length ms = omega (arith, ap (λ y. y.degree) same) in
    ap (λ n. vertex_with x (take (r.degree - 1) (remove ms n)) ∷ vertices_of rs (drop (r.degree - 1) (remove ms n))) (zero-add i)
    ∙ ap₂ (λ a b. vertex_with x a ∷ vertices_of rs b) (take_removed_in ms r.degree i g low) (drop_removed_in ms r.degree i g low)
    ∙ ap (λ y. vertex_with x (remove (take y.degree ms) i) ∷ vertices_of rs (drop y.degree ms)) (sym same)
vertices_struck (x ∷ rs) ms (suc k) i r e g h =
    let o : ℕ = total (take k rs) + i in
    let within : x.degree + o ≤ length ms = omega (arith, ends_within rs k r e) in
    ap (λ n. vertex_with x (take x.degree (remove ms n)) ∷ vertices_of (adjusted (with_degree (r.degree - 1)) rs k) (drop x.degree (remove ms n))) (add_assoc x.degree (total (take k rs)) i)
    ∙ ap₂ (λ a b. vertex_with x a ∷ vertices_of (adjusted (with_degree (r.degree - 1)) rs k) b) (take_removed ms x.degree o within) (drop_removed ms x.degree o within)
    ∙ ap (λ vs. vertex_with x (take x.degree ms) ∷ vs) (vertices_struck rs (drop x.degree ms) k i r e g (omega (arith, length-drop x.degree ms)))
