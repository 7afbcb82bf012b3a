-- A plain sheet keeps to the ranges of a chart.
use Rattle.std.proofs.Common.{◌≡◌, ℕ, zero, suc, ◌+◌, ◌<◌, ◌≤◌, true, cond, ◌&&◌, ltb, leb, List, [], ◌∷◌, ◌++◌, length, get_or, sym, refl, subst, inl, inr, arith}
use Rattle.std.specs.List.{AllByRecursion}
use Rattle.std.proofs.lemmas.List.{length_push}
use Rattle.std.proofs.lemmas.List.Edits.{length-remove}
use Rattle.std.proofs.ByRecursion.{All-weaker, All-push, All-append, All-take, All-drop, All-get_or}
use Rattle.std.proofs.lemmas.Bool.{and_parts, ltb-true, leb-true, cases_Bool, cond-true, cond-false}
use Rattle.chart.specs.Arena.{Vertex, Ranged, RangedMove, RangedVertex}
use Rattle.game.specs.Reading.{no_vertex}
use Rattle.drawn.specs.Rules.{adjusted, move_count, with_move, without_move}
use Rattle.drawn.proofs.Adjusted.{length_adjusted}
use Rattle.promise.specs.Sheets.{Call, place, join, strike, solve, check, Sheet, takes, drawn_on, sheet_after, plain_sheet}

-- a sheet within the ranges, with at most 128 vertices and 1,024 moves
record Neat (s : Sheet) : Type 0 where
  few : length s ≤ 128
  moves : move_count s ≤ 1024
  each : AllByRecursion (RangedVertex (length s) 8) s

wider : (n m : ℕ) → n ≤ m → (v : Vertex) → RangedVertex n 8 v → RangedVertex m 8 v
wider n m h v r = record {
  owner = r.owner;
  colour = r.colour;
  few = r.few;
  moves = All-weaker (RangedMove n) (RangedMove m) (λ x k. record { target = (let t = k.target in omega arith); cost = k.cost }) v.moves r.moves;
}

all_adjusted : (P : Vertex → Type 0) (f : Vertex → Vertex) (s : Sheet) (i : ℕ) → AllByRecursion P s → (i < length s → P (f (get_or s i no_vertex))) → AllByRecursion P (adjusted f s i)
all_adjusted P f [] i a h = tt
all_adjusted P f (x ∷ s) zero a h = (h (omega arith), a.1)
all_adjusted P f (x ∷ s) (suc i) a h = (a.0, all_adjusted P f s i a.1 (λ l. h (omega arith)))

count_adjusted : (f : Vertex → Vertex) (s : Sheet) (i k : ℕ) → (i < length s → length (f (get_or s i no_vertex)).moves ≤ length (get_or s i no_vertex).moves + k) → move_count (adjusted f s i) ≤ move_count s + k
count_adjusted f [] i k h = omega arith
count_adjusted f (x ∷ s) zero k h = let e = h (omega arith) in omega arith
count_adjusted f (x ∷ s) (suc i) k h = let r = count_adjusted f s i k (λ l. h (omega arith)) in omega arith

count_over : (s : Sheet) (i : ℕ) → length (get_or s i no_vertex).moves ≤ move_count s
count_over [] i = omega arith
count_over (x ∷ s) zero = omega arith
count_over (x ∷ s) (suc i) = let r = count_over s i in omega arith

count_push : (s : Sheet) (v : Vertex) → move_count (s ++ v ∷ []) ≡ move_count s + length v.moves
count_push [] v = omega arith
count_push (x ∷ s) v = let r = count_push s v in omega arith

neat_drawn : (s : Sheet) (c : Call) → takes s c ≡ true → Neat s → Neat (drawn_on s c)
neat_drawn s (place owner colour) e n =
    let v : Vertex = record { owner = owner; colour = colour; moves = [] } in
    let p = and_parts (leb owner 1 && leb colour 8) (ltb (length s) 128) e in
    let q = and_parts (leb owner 1) (leb colour 8) p.0 in
    let h : length s < 128 = ltb-true (length s) 128 p.1 in
    let l = length_push s v in
    let r : RangedVertex (length (s ++ v ∷ [])) 8 v = record { owner = leb-true owner 1 q.0; colour = leb-true colour 8 q.1; few = omega arith; moves = tt } in
    record {
      few = omega arith;
      moves = (let k = count_push s v in let g = n.moves in omega arith);
      each = All-push (RangedVertex (length (s ++ v ∷ [])) 8) s v (All-weaker (RangedVertex (length s) 8) (RangedVertex (length (s ++ v ∷ [])) 8) (wider (length s) (length (s ++ v ∷ [])) (omega arith)) s n.each) r;
    }
neat_drawn s (join from to cost) e n = joined
  where
    p : ((ltb from (length s) && ltb to (length s) && leb cost 10000) ≡ true) × (ltb (move_count s) 1024 ≡ true)
    p = and_parts (ltb from (length s) && ltb to (length s) && leb cost 10000) (ltb (move_count s) 1024) e

    q : ((ltb from (length s) && ltb to (length s)) ≡ true) × (leb cost 10000 ≡ true)
    q = and_parts (ltb from (length s) && ltb to (length s)) (leb cost 10000) p.0

    there : to < length s
    there = ltb-true to (length s) (and_parts (ltb from (length s)) (ltb to (length s)) q.0).1

    full : move_count s < 1024
    full = ltb-true (move_count s) 1024 p.1

    joined : Neat (drawn_on s (join from to cost))
    joined =
        let long = length_adjusted (with_move (record { target = to; cost = cost })) s from in
        record {
          few = (let h = n.few in omega arith);
          moves = (let k = count_adjusted (with_move (record { target = to; cost = cost })) s from 1
              (λ l. let h = length_push (get_or s from no_vertex).moves (record { target = to; cost = cost }) in omega arith) in let g = full in omega arith);
          each = subst (λ k. AllByRecursion (RangedVertex k 8) (drawn_on s (join from to cost))) (sym long)
              (all_adjusted (RangedVertex (length s) 8) _ s from n.each (λ l.
              let v = get_or s from no_vertex in
              let r : RangedVertex (length s) 8 v = All-get_or (RangedVertex (length s) 8) s from no_vertex l n.each in
              record {
                owner = r.owner;
                colour = r.colour;
                few = (let h = length_push v.moves (record { target = to; cost = cost }) in let g = full in let k = count_over s from in omega arith);
                moves = All-push (RangedMove (length s)) v.moves (record { target = to; cost = cost }) r.moves (record { target = there; cost = leb-true cost 10000 q.1 });
              }));
        }
neat_drawn s (strike vertex number) e n =
    let p = and_parts (ltb vertex (length s)) (ltb number (length (get_or s vertex no_vertex).moves)) e in
    let v = get_or s vertex no_vertex in
    let h : number < length v.moves = ltb-true number (length v.moves) p.1 in
    let one = length-remove v.moves number h in
    let long = length_adjusted (without_move number) s vertex in
    record {
      few = (let h = n.few in omega arith);
      moves = (let k = count_adjusted (without_move number) s vertex 0 (λ l. omega arith) in let g = n.moves in omega arith);
      each = subst (λ k. AllByRecursion (RangedVertex k 8) (drawn_on s (strike vertex number))) (sym long)
          (all_adjusted (RangedVertex (length s) 8) (without_move number) s vertex n.each (λ l.
          let r : RangedVertex (length s) 8 v = All-get_or (RangedVertex (length s) 8) s vertex no_vertex l n.each in
          record {
            owner = r.owner;
            colour = r.colour;
            few = (let g = r.few in omega arith);
            moves = All-append (RangedMove (length s)) _ _ (All-take (RangedMove (length s)) number v.moves r.moves) (All-drop (RangedMove (length s)) (suc number) v.moves r.moves);
          }));
    }
neat_drawn s (solve tables room) e n = n
neat_drawn s (check tables bound room) e n = n

neat_after : (s : Sheet) (cs : List Call) → Neat s → Neat (sheet_after s cs)
neat_after s [] n = n
neat_after s (c ∷ cs) n = neat_after (cond (takes s c) (drawn_on s c) s) cs (elim (cases_Bool (takes s c)) [
  | inl e ↦ subst Neat (sym (cond-true (takes s c) (drawn_on s c) s e)) (neat_drawn s c e n)
  | inr e ↦ subst Neat (sym (cond-false (takes s c) (drawn_on s c) s e)) n
])

pub sheet_ranged : (cs : List Call) → Ranged (plain_sheet cs)
sheet_ranged cs =
    let n = neat_after [] cs (record { few = omega arith; moves = omega arith; each = tt }) in
    record { few = (let h = n.few in omega arith); low = omega arith; even = refl; vertices = n.each }
