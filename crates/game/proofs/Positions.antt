-- The waiting chart, position by position.
use Rattle.std.proofs.Common.{◌≡◌, ℕ, zero, suc, ◌+◌, ◌*◌, ◌/◌, ◌%◌, ◌<◌, ◌≤◌, Bool, true, false, cond, ◌&&◌, eqb, ltb, ◌⊎◌, List, [], ◌∷◌, map, length, get_or, Some, None, sym, refl, ap, ◌∙◌, subst, inl, inr, mod-lt, div-lt_iff_lt-mul, arith}
use native.Mathlib.Decide.{ℕ_discrete, dec_le}
use lib.Arith.{digits_div, digits_mod, digits_lt}
use Rattle.std.specs.Option.{option_map}
use Rattle.std.specs.List.{range_with_len, AllByRecursion, slice_get}
use Rattle.std.proofs.lemmas.List.FromFn.{length-map-range_with_len, get_or-map-range_with_len}
use Rattle.std.proofs.ByRecursion.{All-from_get_or, All-map, All-weaker}
use Rattle.std.proofs.lemmas.List.{length-map, get_or-map}
use Rattle.std.proofs.lemmas.Option.{slice_get_past}
use Rattle.chart.specs.Arena.{Arena, size, vertex_at, move_at, and_then, Ranged, RangedVertex, RangedMove}
use Rattle.chart.specs.declared.parts.Move.{Move}
use Rattle.game.specs.Reading.{no_move, no_vertex, row, owner_of, colour_of, degree_of, target_of, cost_of}
use Rattle.game.specs.Waiting.{levels, arrive, toll, positions, place, vertex_in, level_in, stage_in, tint, lifted, paying, moves_in, colour_in, position, may_be_laid, waiting}
use Rattle.game.proofs.Readings.{row_ranged, row_past, vertex_there, owner_is, colour_is, degree_is, owner_low, colour_low}

-- arriving
pub arrive_stays : (l k : ℕ) → arrive (arrive l k) k ≡ arrive l k
arrive_stays l k = grind arith

pub arrive_odd : (l k : ℕ) → k % 2 ≡ 1 → arrive l k ≡ l → k < 2 * l
arrive_odd l k o e = grind arith

pub arrive_top : (l k h : ℕ) → l ≤ h / 2 → k ≤ h → h % 2 ≡ 0 → arrive l k ≤ h / 2
arrive_top l k h a b e = grind arith

pub toll_cases : (x : ℕ) → ((x ≡ 0) × (toll x ≡ 0)) ⊎ ((0 < x) × (toll x ≡ 1))
toll_cases x = elim (ℕ_discrete x 0) [ yes e ↦ inl (e, grind arith) | no d ↦ inr (omega arith, grind arith) ]

pub toll_paid : (x : ℕ) → 0 < x → toll x ≡ 1
toll_paid x h = grind arith

pub toll_low : (x : ℕ) → toll x ≤ 1
toll_low x = grind arith

-- the numbering
module _ (a : Arena) (v l t : ℕ) (hl : l ≤ a.height / 2) (ht : t ≤ 1) where
  half : place a v l t / 2 ≡ v * levels a + l
  half = omega arith

  pub vertex_in_place : vertex_in a (place a v l t) ≡ v
  vertex_in_place = ap (λ n. n / levels a) half ∙ digits_div v {m = levels a} {r = l} (omega arith)

  pub level_in_place : level_in a (place a v l t) ≡ l
  level_in_place = ap (λ n. n % levels a) half ∙ digits_mod v {m = levels a} {r = l} (omega arith)

  pub stage_in_place : stage_in (place a v l t) ≡ t
  stage_in_place = omega arith

  pub place_low : v < size a → place a v l t < positions a
  place_low hv = let h = digits_lt {q = v} {m = size a} {r = l} {c = levels a} hv (omega arith) in omega arith

pub vertex_in_low : (a : Arena) (p : ℕ) → p < positions a → vertex_in a p < size a
vertex_in_low a p h =
    let k : p / 2 < size a * levels a = omega arith in
    (div-lt_iff_lt-mul {k = levels a} {x = p / 2} {y = size a} (omega arith)).1 k

pub level_in_low : (a : Arena) (p : ℕ) → level_in a p ≤ a.height / 2
level_in_low a p = let h = mod-lt (p / 2) {m = levels a} (omega arith) in omega arith

-- where it may not be laid
module _ (a : Arena) (no : may_be_laid a ≡ false) where
  pub unlaid : waiting a ≡ record { height = 0; vertices = [] }
  unfolding waiting
  unlaid = rw no

-- where it may be laid
module _ (a : Arena) (ok : may_be_laid a ≡ true) where
  pub laid : waiting a ≡ record { height = a.height + 2; vertices = map (position a) (range_with_len 0 (positions a)) }
  unfolding waiting
  laid = rw ok

  pub waiting_height : (waiting a).height ≡ a.height + 2
  waiting_height = ap (λ w. w.height) laid

  pub waiting_size : size (waiting a) ≡ positions a
  waiting_size = ap (λ w. length w.vertices) laid ∙ length-map-range_with_len (position a) 0 (positions a)

  pub waiting_row : (p : ℕ) → p < positions a → row (waiting a) p ≡ position a p
  waiting_row p h = ap (λ w. get_or w.vertices p no_vertex) laid ∙ get_or-map-range_with_len (position a) 0 (positions a) p p no_vertex h (omega arith)

  pub waiting_at : (p : ℕ) → p < positions a → vertex_at (waiting a) p ≡ Some (position a p)
  waiting_at p h = vertex_there (waiting a) p (let e = waiting_size in omega arith) ∙ ap Some (waiting_row p h)

  pub waiting_past : (p : ℕ) → positions a ≤ p → vertex_at (waiting a) p ≡ None
  waiting_past p h = slice_get_past (waiting a).vertices p (let e = waiting_size in omega arith)

nth_map : {A B : Type 0} (f : A → B) (xs : List A) (i : ℕ) → slice_get (map f xs) i ≡ option_map f (slice_get xs i)
nth_map f [] i = refl
nth_map f (x ∷ xs) zero = refl
nth_map f (x ∷ xs) (suc i) = nth_map f xs i

at_zero : {A : Type 0} (n : ℕ) (x y : A) → n ≡ 0 → cond (eqb n 0) x y ≡ x
at_zero n x y e = rw e

at_other : {A : Type 0} (n : ℕ) (x y : A) → ¬ (n ≡ 0) → cond (eqb n 0) x y ≡ y
at_other n x y d = let e : eqb n 0 ≡ false = grind arith in rw e

-- the tables and the moves of a position
module _ (a : Arena) (ok : may_be_laid a ≡ true) (p : ℕ) (h : p < positions a) where
  pub owner_there : owner_of (waiting a) p ≡ owner_of a (vertex_in a p)
  owner_there = owner_is (waiting a) p (position a p) (waiting_at a ok p h)

  pub colour_there : colour_of (waiting a) p ≡ colour_in a p
  colour_there = colour_is (waiting a) p (position a p) (waiting_at a ok p h)

  pub degree_there : degree_of (waiting a) p ≡ length (moves_in a p)
  degree_there = degree_is (waiting a) p (position a p) (waiting_at a ok p h)

  pub degree_on : stage_in p ≡ 0 → degree_of (waiting a) p ≡ degree_of a (vertex_in a p)
  unfolding degree_of
  degree_on e = degree_there ∙ (ap length (at_zero (stage_in p) _ _ e) ∙ length-map (row a (vertex_in a p)).moves (lifted a (level_in a p)))

  pub degree_off : ¬ (stage_in p ≡ 0) → degree_of (waiting a) p ≡ 1
  degree_off d = degree_there ∙ ap length (at_other (stage_in p) (map (lifted a (level_in a p)) (row a (vertex_in a p)).moves) (paying a p ∷ []) d)

  move_there : (m : ℕ) → get_or (row (waiting a) p).moves m no_move ≡ get_or (moves_in a p) m no_move
  move_there m = ap (λ r. get_or r.moves m no_move) (waiting_row a ok p h)

  pub target_on : stage_in p ≡ 0 → (m : ℕ) → m < degree_of a (vertex_in a p) →
      target_of (waiting a) p m ≡ place a (target_of a (vertex_in a p) m) (arrive (level_in a p) (colour_of a (target_of a (vertex_in a p) m))) (toll (cost_of a (vertex_in a p) m))
  unfolding target_of degree_of cost_of
  target_on e m k =
      ap (λ y. y.target) (move_there m ∙ (ap (λ xs. get_or xs m no_move) (at_zero (stage_in p) _ _ e)
      ∙ get_or-map (lifted a (level_in a p)) (row a (vertex_in a p)).moves m no_move no_move k))

  pub target_off : ¬ (stage_in p ≡ 0) → target_of (waiting a) p 0 ≡ place a (vertex_in a p) (level_in a p) 0
  unfolding target_of
  target_off d = ap (λ y. y.target) (move_there 0 ∙ ap (λ xs. get_or xs 0 no_move) (at_other (stage_in p) (map (lifted a (level_in a p)) (row a (vertex_in a p)).moves) (paying a p ∷ []) d))

  pub moves_on : stage_in p ≡ 0 → (i : ℕ) → move_at (waiting a) p i ≡ option_map (lifted a (level_in a p)) (move_at a (vertex_in a p) i)
  moves_on e i =
      ap (λ o. and_then o (λ x. slice_get x.moves i)) (waiting_at a ok p h)
      ∙ (ap (λ xs. slice_get xs i) (at_zero (stage_in p) _ _ e)
      ∙ (nth_map (lifted a (level_in a p)) (row a (vertex_in a p)).moves i
      ∙ ap (λ o. option_map (lifted a (level_in a p)) (and_then o (λ x. slice_get x.moves i))) (sym (vertex_there a (vertex_in a p) (vertex_in_low a p h)))))

  pub moves_off : ¬ (stage_in p ≡ 0) → (i : ℕ) → move_at (waiting a) p i ≡ slice_get (paying a p ∷ []) i
  moves_off d i =
      ap (λ o. and_then o (λ x. slice_get x.moves i)) (waiting_at a ok p h)
      ∙ ap (λ xs. slice_get xs i) (at_other (stage_in p) (map (lifted a (level_in a p)) (row a (vertex_in a p)).moves) (paying a p ∷ []) d)

lifted_free : (a : Arena) (l : ℕ) (xs : List Move) (m : ℕ) → (get_or (map (lifted a l) xs) m no_move).cost ≡ 0
lifted_free a l [] m = refl
lifted_free a l (x ∷ xs) zero = refl
lifted_free a l (x ∷ xs) (suc m) = lifted_free a l xs m

paying_free : (a : Arena) (p m : ℕ) → (get_or (paying a p ∷ []) m no_move).cost ≡ 0
paying_free a p zero = refl
paying_free a p (suc m) = refl

-- no move of the waiting chart costs anything
pub cost_there : (a : Arena) → may_be_laid a ≡ true → (p m : ℕ) → cost_of (waiting a) p m ≡ 0
unfolding cost_of
cost_there a ok p m = elim (dec_le (suc p) (positions a)) [
  | no h ↦ ap (λ r. (get_or r.moves m no_move).cost) (row_past (waiting a) p (let e = waiting_size a ok in omega arith))
  | yes h ↦ elim (ℕ_discrete (stage_in p) 0) [
    | yes e ↦ ap (λ y. y.cost) (move_there a ok p h m ∙ ap (λ xs. get_or xs m no_move) (at_zero (stage_in p) _ _ e)) ∙ lifted_free a (level_in a p) (row a (vertex_in a p)).moves m
    | no d ↦ ap (λ y. y.cost) (move_there a ok p h m ∙ ap (λ xs. get_or xs m no_move) (at_other (stage_in p) _ _ d)) ∙ paying_free a p m
  ]
]

-- the same at a position by its vertex, level and stage
module _ (a : Arena) (ok : may_be_laid a ≡ true) (v l : ℕ) (hv : v < size a) (hl : l ≤ a.height / 2) where
  pub owner_at : (t : ℕ) → t ≤ 1 → owner_of (waiting a) (place a v l t) ≡ owner_of a v
  owner_at t ht = owner_there a ok (place a v l t) (place_low a v l t hl ht hv) ∙ ap (owner_of a) (vertex_in_place a v l t hl ht)

  pub colour_at : (t : ℕ) → t ≤ 1 → colour_of (waiting a) (place a v l t) ≡ tint a.height (colour_of a v) l t
  colour_at t ht = colour_there a ok (place a v l t) (place_low a v l t hl ht hv)
      ∙ (ap (λ x. tint a.height (colour_of a x) (level_in a (place a v l t)) (stage_in (place a v l t))) (vertex_in_place a v l t hl ht)
      ∙ (ap (λ j. tint a.height (colour_of a v) j (stage_in (place a v l t))) (level_in_place a v l t hl ht)
      ∙ ap (tint a.height (colour_of a v) l) (stage_in_place a v l t hl ht)))

  pub degree_at_vertex : degree_of (waiting a) (place a v l 0) ≡ degree_of a v
  degree_at_vertex = degree_on a ok (place a v l 0) (place_low a v l 0 hl (omega arith) hv) (stage_in_place a v l 0 hl (omega arith)) ∙ ap (degree_of a) (vertex_in_place a v l 0 hl (omega arith))

  off : ¬ (stage_in (place a v l 1) ≡ 0)
  off e = let s = stage_in_place a v l 1 hl (omega arith) in omega arith

  pub degree_at_toll : degree_of (waiting a) (place a v l 1) ≡ 1
  degree_at_toll = degree_off a ok (place a v l 1) (place_low a v l 1 hl (omega arith) hv) off

  pub target_at_vertex : (m : ℕ) → m < degree_of a v →
      target_of (waiting a) (place a v l 0) m ≡ place a (target_of a v m) (arrive l (colour_of a (target_of a v m))) (toll (cost_of a v m))
  target_at_vertex m h =
      let e = vertex_in_place a v l 0 hl (omega arith) in
      target_on a ok (place a v l 0) (place_low a v l 0 hl (omega arith) hv) (stage_in_place a v l 0 hl (omega arith)) m (subst (λ x. m < degree_of a x) (sym e) h)
      ∙ (ap (λ x. place a (target_of a x m) (arrive (level_in a (place a v l 0)) (colour_of a (target_of a x m))) (toll (cost_of a x m))) e
      ∙ ap (λ j. place a (target_of a v m) (arrive j (colour_of a (target_of a v m))) (toll (cost_of a v m))) (level_in_place a v l 0 hl (omega arith)))

  pub target_at_toll : target_of (waiting a) (place a v l 1) 0 ≡ place a v l 0
  target_at_toll =
      target_off a ok (place a v l 1) (place_low a v l 1 hl (omega arith) hv) off
      ∙ (ap (λ x. place a x (level_in a (place a v l 1)) 0) (vertex_in_place a v l 1 hl (omega arith)) ∙ ap (λ j. place a v j 0) (level_in_place a v l 1 hl (omega arith)))

pub tint_low : (h k l t : ℕ) → k ≤ h → tint h k l t ≤ h + 2
tint_low h k l t e = grind arith

-- the waiting chart keeps the ranges of a chart
module _ (a : Arena) (r : Ranged a) (p : ℕ) (h : p < positions a) where
  lifted_ranged : (l : ℕ) → l ≤ a.height / 2 → (m : Move) → RangedMove (size a) m → RangedMove (positions a) (lifted a l m)
  lifted_ranged l hl m k = record {
    target = place_low a m.target (arrive l (colour_of a m.target)) (toll m.cost)
        (arrive_top l (colour_of a m.target) a.height hl (colour_low a r m.target) r.even) (toll_low m.cost) k.target;
    cost = omega arith;
  }

  moves_ranged : AllByRecursion (RangedMove (positions a)) (moves_in a p) × (length (moves_in a p) ≤ 1024)
  moves_ranged = elim (ℕ_discrete (stage_in p) 0) [
    | yes e ↦
        let xs : List Move = (row a (vertex_in a p)).moves in
        subst (λ ms. AllByRecursion (RangedMove (positions a)) ms × (length ms ≤ 1024)) (sym (at_zero (stage_in p) _ _ e)) (
          All-map (RangedMove (positions a)) (lifted a (level_in a p)) xs
              (All-weaker (RangedMove (size a)) _ (lifted_ranged (level_in a p) (level_in_low a p)) xs (row_ranged a r (vertex_in a p)).moves),
          (let k = (row_ranged a r (vertex_in a p)).few in let z = length-map xs (lifted a (level_in a p)) in omega arith),
        )
    | no d ↦
        subst (λ ms. AllByRecursion (RangedMove (positions a)) ms × (length ms ≤ 1024)) (sym (at_other (stage_in p) _ _ d))
        ((record { target = place_low a (vertex_in a p) (level_in a p) 0 (level_in_low a p) (omega arith) (vertex_in_low a p h); cost = omega arith }, tt), omega arith)
  ]

  position_ranged : RangedVertex (positions a) (a.height + 2) (position a p)
  position_ranged = record { owner = owner_low a r (vertex_in a p); colour = tint_low a.height (colour_of a (vertex_in a p)) (level_in a p) (stage_in p) (colour_low a r (vertex_in a p)); few = moves_ranged.1; moves = moves_ranged.0 }

waiting_few : (a : Arena) → may_be_laid a ≡ true → (positions a ≤ 4096) × (a.height ≤ 28)
waiting_few a ok = (elim (dec_le (positions a) 4096) [ yes h ↦ h | no h ↦ absurd (grind arith) ], elim (dec_le a.height 28) [ yes h ↦ h | no h ↦ absurd (grind arith) ])

pub waiting_ranged : (a : Arena) → Ranged a → Ranged (waiting a)
waiting_ranged a r = go (may_be_laid a) refl
  where
    go : (b : Bool) → may_be_laid a ≡ b → Ranged (waiting a)
    go false un = subst Ranged (sym (unlaid a un)) (record { few = omega arith; low = omega arith; even = refl; vertices = tt })
    go true ok =
        let few = waiting_few a ok in
        let n = waiting_size a ok in
        let h = waiting_height a ok in
        record {
          few = omega arith;
          low = omega arith;
          even = (let e = r.even in omega arith);
          vertices = All-from_get_or (RangedVertex (size (waiting a)) (waiting a).height) (waiting a).vertices no_vertex (λ p k.
              let k' : p < positions a = omega arith in
              subst (RangedVertex (size (waiting a)) (waiting a).height) (sym (waiting_row a ok p k'))
              (rw (n, h) (position_ranged a r p k')));
        }

-- the answers to each question in one equation, whether the waiting chart may be laid or not
module _ (a : Arena) where
  pub waiting_height_is : (waiting a).height ≡ cond (may_be_laid a) (a.height + 2) 0
  waiting_height_is = go (may_be_laid a) refl
    where
      go : (b : Bool) → may_be_laid a ≡ b → (waiting a).height ≡ cond b (a.height + 2) 0
      go true ok = waiting_height a ok
      go false un = ap (λ w. w.height) (unlaid a un)

  pub waiting_size_is : size (waiting a) ≡ cond (may_be_laid a) (positions a) 0
  waiting_size_is = go (may_be_laid a) refl
    where
      go : (b : Bool) → may_be_laid a ≡ b → size (waiting a) ≡ cond b (positions a) 0
      go true ok = waiting_size a ok
      go false un = ap size (unlaid a un)

  pub waiting_vertex_is : (p : ℕ) → vertex_at (waiting a) p ≡ cond (may_be_laid a && ltb p (positions a)) (Some (position a p)) None
  waiting_vertex_is p = go (may_be_laid a) refl
    where
      go : (b : Bool) → may_be_laid a ≡ b → vertex_at (waiting a) p ≡ cond (b && ltb p (positions a)) (Some (position a p)) None
      go true ok = elim (dec_le (suc p) (positions a)) [
        | yes h ↦ let e : ltb p (positions a) ≡ true = grind arith in waiting_at a ok p h ∙ rw e
        | no h ↦ let e : ltb p (positions a) ≡ false = grind arith in waiting_past a ok p (omega arith) ∙ rw e
      ]
      go false un = ap (λ w. vertex_at w p) (unlaid a un)

  pub waiting_move_is : (p i : ℕ) → move_at (waiting a) p i ≡ cond (may_be_laid a && ltb p (positions a)) (slice_get (moves_in a p) i) None
  waiting_move_is p i = ap (λ o. and_then o (λ x. slice_get x.moves i)) (waiting_vertex_is p)
      ∙ (elim (may_be_laid a && ltb p (positions a)) as (λ b. and_then (cond b (Some (position a p)) None) (λ x. slice_get x.moves i) ≡ cond b (slice_get (moves_in a p) i) None) [
        | true ↦ refl
        | false ↦ refl
      ])
