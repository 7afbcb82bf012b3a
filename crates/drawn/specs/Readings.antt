-- Lemmas: a drawn chart keeps to the ranges of a chart, and numbers name its vertices. They stand in specs/ since laws of a chart cite them.
use Rattle.std.specs.Prelude.{◌≡◌, ℕ, ◌<◌, ◌≤◌, cond, List, [], ◌∷◌, length, take, drop, is_some as option_is_some, Some, None, nat_le, nat_lt, refl}
use Rattle.std.proofs.Common.{sym, ap, ◌∙◌, arith, length-drop, length-take-le, inl, inr}
use Rattle.std.specs.Bool.{IsTrue}
use Rattle.std.specs.List.{All, AllByRecursion}
use Rattle.std.proofs.lemmas.Bool.{and_parts, leb-true, ltb-true, lt-ltb, le-ltb, cases_lt}
use Rattle.std.proofs.lemmas.List.{length-take}
use Rattle.std.proofs.lemmas.List.Elements.{All-head, All-tail, All-take, All-drop, All-weaker, recursion_from_All}
use Rattle.chart.specs.declared.parts.Move.{Move}
use Rattle.chart.specs.declared.parts.Player.{Player}
use Rattle.chart.specs.declared.parts.Player.TheVariants.{Controller, Harbour}
use Rattle.chart.specs.Arena.{RangedMove, RangedVertex, Ranged, size}
use Rattle.chart.specs.Names.{Naming}
use Rattle.chart.specs.Players.{numbered}
use Rattle.drawn.specs.declared.row.Row.{Row}
use Rattle.drawn.specs.declared.sheet.Drawn.{Drawn}
use Rattle.drawn.specs.Rows.{vertices_of, row_ranged, move_ranged}
use Rattle.drawn.specs.Meaning.{rows, moves, sheet, itself}

pub length_vertices : (rs : List Row) (ms : List Move) → length (vertices_of rs ms) ≡ length rs
length_vertices [] ms = refl
length_vertices (r ∷ rs) ms = omega (arith, length_vertices rs (drop r.degree ms))

pub owner_low : (p : Player) → numbered p ≤ 1
owner_low Controller = omega arith
owner_low Harbour = omega arith

pub move_facts : (n : ℕ) (m : Move) → IsTrue (move_ranged n m) → RangedMove n m
move_facts n m h =
    let p = and_parts (nat_lt m.target n) (nat_le m.cost 10000) h in
    record { target = ltb-true m.target n p.0; cost = leb-true m.cost 10000 p.1 }

moves_ranged : (n : ℕ) (ms : List Move) → All (λ m. IsTrue (move_ranged n m)) ms → AllByRecursion (RangedMove n) ms
moves_ranged n ms h = recursion_from_All (RangedMove n) ms (All-weaker (λ m. IsTrue (move_ranged n m)) (RangedMove n) (move_facts n) ms h)

pub vertices_ranged : (n : ℕ) (rs : List Row) (ms : List Move) →
    All (λ r. IsTrue (row_ranged r)) rs → All (λ m. IsTrue (move_ranged n m)) ms → length ms ≤ 1024 → AllByRecursion (RangedVertex n 8) (vertices_of rs ms)
vertices_ranged n [] ms a b c = tt
vertices_ranged n (r ∷ rs) ms a b c = (
  record {
    owner = owner_low r.owner;
    colour = leb-true r.colour 8 (All-head (λ x. IsTrue (row_ranged x)) r rs a);
    few = omega (arith, length-take r.degree ms);
    moves = moves_ranged n (take r.degree ms) (All-take (λ m. IsTrue (move_ranged n m)) r.degree ms b);
  },
  vertices_ranged n rs (drop r.degree ms) (All-tail (λ x. IsTrue (row_ranged x)) r rs a) (All-drop (λ m. IsTrue (move_ranged n m)) r.degree ms b) (omega (arith, length-drop r.degree ms)),
)

module _ (d : Drawn) where
  pub rows_length : length (rows d) ≡ d.count
  rows_length = length-take-le d.count d.rows (omega (arith, d.room, d.wide))

  pub moves_length : length (moves d) ≡ d.used
  moves_length = length-take-le d.used d.moves (omega (arith, d.few, d.long))

  pub size_is : size (sheet d) ≡ d.count
  size_is = length_vertices (rows d) (moves d) ∙ rows_length

  pub sheet_ranged : Ranged (sheet d)
  sheet_ranged = record {
    few = omega (arith, size_is, d.room);
    low = omega arith;
    even = refl;
    vertices = vertices_ranged (size (sheet d)) (rows d) (moves d) d.tinted (rw size_is d.ranged) (omega (arith, moves_length, d.few));
  }

-- a number names itself
module _ (n : ℕ) where
  pub itself_within : (v : ℕ) → v < n → itself n v ≡ Some v
  itself_within v h = ap (λ b. cond b (Some v) None) (lt-ltb v n h)

  pub itself_past : (v : ℕ) → n ≤ v → itself n v ≡ None
  itself_past v h = ap (λ b. cond b (Some v) None) (le-ltb v n h)

  pub itself_only : (v x : ℕ) → itself n v ≡ Some x → itself n x ≡ Some v
  itself_only v x e = elim (cases_lt v n) [
    | inl h ↦ let same : v ≡ x = (let f : Some v ≡ Some x = sym (itself_within v h) ∙ e in cc) in itself_within x (omega arith) ∙ ap Some (sym same)
    | inr h ↦ let f : None ≡ Some x = sym (itself_past v h) ∙ e in cc
  ]

  is_some : (v : ℕ) → option_is_some (itself n v) ≡ nat_lt v n
  is_some v = elim (cases_lt v n) [
    | inl h ↦ ap option_is_some (itself_within v h) ∙ sym (lt-ltb v n h)
    | inr h ↦ ap option_is_some (itself_past v h) ∙ sym (le-ltb v n h)
  ]

  pub numbers_name : Naming n (itself n) (itself n)
  numbers_name = record { each = is_some; back = itself_only; forth = λ v x e. itself_only x v e }
