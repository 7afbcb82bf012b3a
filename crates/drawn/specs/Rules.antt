-- What place, join and strike answer, and the chart that they leave, as functions of the chart that
-- they find and of their arguments. A drawn chart has height 8, at most 128 vertices and at most
-- 1,024 moves; a refused call leaves it as it stood.
use Rattle.std.specs.Prelude.{ℕ, zero, suc, ◌+◌, cond, ◌&&◌, List, [], ◌∷◌, ◌++◌, length, Some, None, Option, nat_le, nat_lt}
use Rattle.std.specs.List.{remove}
use Rattle.chart.specs.declared.parts.Move.{Move}
use Rattle.chart.specs.Arena.{Arena, Vertex, size, vertex_at}
use Rattle.chart.specs.Refusals.{Outcome, done, refused}

-- a drawn chart before anything is drawn
abbrev pub blank : Arena
blank = record { height = 8; vertices = [] }

-- how many moves stand in the chart
abbrev pub move_count : List Vertex → ℕ
move_count [] = 0
move_count (v ∷ vs) = length v.moves + move_count vs

abbrev pub degree_or_none : Option Vertex → ℕ
degree_or_none None = 0
degree_or_none (Some v) = length v.moves

-- how many moves leave a vertex
abbrev pub degree_at : Arena → ℕ → ℕ
degree_at a v = degree_or_none (vertex_at a v)

-- f at one place of a list
abbrev pub adjusted : {A : Type 0} → (A → A) → List A → ℕ → List A
adjusted f [] i = []
adjusted f (x ∷ xs) zero = f x ∷ xs
adjusted f (x ∷ xs) (suc i) = x ∷ adjusted f xs i

-- the new arena where the call was done, the old one where it was refused
abbrev pub after : {A : Type 0} → Outcome A → Arena → Arena → Arena
after (done x) new old = new
after (refused n p) new old = old

abbrev pub with_vertex : Arena → Vertex → Arena
with_vertex a v = record { height = a.height; vertices = a.vertices ++ v ∷ [] }

abbrev pub with_adjusted : Arena → (Vertex → Vertex) → ℕ → Arena
with_adjusted a f v = record { height = a.height; vertices = adjusted f a.vertices v }

-- place answers the new vertex's number. It refuses an owner above 1, a colour above 8 and the
-- 129th vertex.
abbrev pub place_outcome : Arena → ℕ → ℕ → Outcome ℕ
place_outcome a owner colour =
    cond (nat_lt 1 owner) (refused 1 0) (
    cond (nat_lt 8 colour) (refused 2 0) (
    cond (nat_le 128 (size a)) (refused 3 0) (
    done (size a))))

-- a vertex without moves, behind the others
abbrev pub placed : Arena → ℕ → ℕ → Arena
placed a owner colour = after (place_outcome a owner colour) (with_vertex a (record { owner = owner; colour = colour; moves = [] })) a

-- join answers the move's number at the vertex that it leaves. It refuses an absent vertex at
-- either end, a cost above 10,000, and a move where 1,024 stand in the chart.
abbrev pub join_outcome : Arena → ℕ → ℕ → ℕ → Outcome ℕ
join_outcome a from to cost =
    cond (nat_lt from (size a) && nat_lt to (size a)) (
    cond (nat_lt 10000 cost) (refused 5 0) (
    cond (nat_le 1024 (move_count a.vertices)) (refused 6 0) (
    done (degree_at a from)))) (
    refused 4 0)

abbrev pub with_move : Move → Vertex → Vertex
with_move m v = record { owner = v.owner; colour = v.colour; moves = v.moves ++ m ∷ [] }

-- a last move at the vertex that it leaves
abbrev pub joined : Arena → ℕ → ℕ → ℕ → Arena
joined a from to cost = after (join_outcome a from to cost) (with_adjusted a (with_move (record { target = to; cost = cost })) from) a

-- strike refuses an absent vertex, then an absent move.
abbrev pub strike_outcome : Arena → ℕ → ℕ → Outcome (Unit {0})
strike_outcome a vertex number =
    cond (nat_lt vertex (size a)) (
    cond (nat_lt number (degree_at a vertex)) (done tt) (refused 7 0)) (
    refused 4 0)

abbrev pub without_move : ℕ → Vertex → Vertex
without_move i v = record { owner = v.owner; colour = v.colour; moves = remove v.moves i }

-- the move is taken out; later ones there go down by one
abbrev pub struck : Arena → ℕ → ℕ → Arena
struck a vertex number = after (strike_outcome a vertex number) (with_adjusted a (without_move number) vertex) a
