-- A voyage laid out in the waiting chart: what its positions show, its vertices show or its
-- requests pay for.
use Rattle.chart.specs.Arena.{Arena, size, Ranged}
use Rattle.walks.specs.Showings.{Next, same, tally, Shows}
use Rattle.walks.proofs.Long.{tally_none, same_no, same_le, all_front, all_back}
use Rattle.game.specs.Reading.{colour_of, target_of, cost_of}
use Rattle.game.specs.Voyages.{Voyage, passed, answers, wait, worst_wait}
use Rattle.game.specs.Waiting.{arrive, place, vertex_in, level_in, stage_in, tint, colour_in, may_be_laid, waiting, first_level}
use Rattle.game.proofs.Readings.{colour_low, target_low}
use Rattle.game.proofs.Positions.{arrive_top, toll_cases, tint_low, vertex_in_place, stage_in_place, colour_there, colour_at}
use Rattle.theory.specs.Levels.{Spot}
use Rattle.theory.proofs.Bounds.{wait_asked, worst_over}
use Rattle.std.specs.List.{AllByRecursion}
use Rattle.std.proofs.ByRecursion.{All-weaker}
use Rattle.std.proofs.Common.{◌≡◌, ℕ, ◌+◌, ◌-◌, ◌*◌, ◌/◌, ◌%◌, ◌<◌, ◌≤◌, true, false, cond, eqb, ◌⊎◌, List, [], ◌∷◌, ◌++◌, length, sym, refl, ap, ◌∙◌, subst, inl, inr, le_trans, le_of_eq, mul-le-mul_right, arith}
use native.Mathlib.Decide.{ℕ_discrete, dec_le}
use native.Mathlib.Nat.{le-max_right}

-- the positions of the voyage from x at the level l
unfoldable pub lay : Arena → ℕ → ℕ → List ℕ → List ℕ
lay a x l [] = place a x l 0 ∷ []
lay a x l (m ∷ ms) =
    let y : ℕ = target_of a x m in
    let k : ℕ = arrive l (colour_of a y) in
    let rest : List ℕ = lay a y k ms in
    place a x l 0 ∷ cond (eqb (cost_of a x m) 0) rest (place a y k 1 ∷ rest)

module _ (a : Arena) (x l m : ℕ) (ms : List ℕ) where
  abbrev y : ℕ
  y = target_of a x m

  abbrev j : ℕ
  j = arrive l (colour_of a y)

  lay_free : cost_of a x m ≡ 0 → lay a x l (m ∷ ms) ≡ place a x l 0 ∷ lay a y j ms
  unfolding lay
  lay_free e = rw e

  lay_paid : 0 < cost_of a x m → lay a x l (m ∷ ms) ≡ place a x l 0 ∷ (place a y j 1 ∷ lay a y j ms)
  unfolding lay
  lay_paid h = let e : eqb (cost_of a x m) 0 ≡ false = grind arith in rw e

lay_head : (a : Arena) (x l : ℕ) (ms : List ℕ) → (ys : List ℕ) × (lay a x l ms ≡ place a x l 0 ∷ ys)
unfolding lay
lay_head a x l [] = (_, refl)
lay_head a x l (m ∷ ms) = (_, refl)

pub next_lay : (E : ℕ → ℕ → Type 0) (a : Arena) (p x l : ℕ) (ms : List ℕ) → E p (place a x l 0) → Next E p (lay a x l ms)
unfolding lay
next_lay E a p x l [] e = e
next_lay E a p x l (m ∷ ms) e = e

pub lay_long : (a : Arena) (x l : ℕ) (ms : List ℕ) → length ms < length (lay a x l ms)
unfolding lay
lay_long a x l [] = omega arith
lay_long a x l (m ∷ ms) =
    let r = lay_long a (target_of a x m) (arrive l (colour_of a (target_of a x m))) ms in
    elim (toll_cases (cost_of a x m)) [
      | inl z ↦ rw (ap length (lay_free a x l m ms z.0)) (omega arith)
      | inr z ↦ rw (ap length (lay_paid a x l m ms z.0)) (omega arith)
    ]

-- the vertices of the positions at stage 0
down : Arena → List ℕ → List ℕ
down a [] = []
down a (p ∷ ps) = cond (eqb (stage_in p) 0) (vertex_in a p ∷ down a ps) (down a ps)

down_join : (a : Arena) (ps qs : List ℕ) → down a (ps ++ qs) ≡ down a ps ++ down a qs
unfolding down
down_join a [] qs = refl
down_join a (p ∷ ps) qs = elim (eqb (stage_in p) 0) as (λ b. cond b (vertex_in a p ∷ down a (ps ++ qs)) (down a (ps ++ qs)) ≡ cond b (vertex_in a p ∷ down a ps) (down a ps) ++ down a qs) [
  | true ↦ ap (λ z. vertex_in a p ∷ z) (down_join a ps qs)
  | false ↦ down_join a ps qs
]

module _ (a : Arena) (x l : ℕ) (ps : List ℕ) (hl : l ≤ a.height / 2) where
  down_on : down a (place a x l 0 ∷ ps) ≡ x ∷ down a ps
  unfolding down
  down_on =
      ap (λ t. cond (eqb t 0) (vertex_in a (place a x l 0) ∷ down a ps) (down a ps)) (stage_in_place a x l 0 hl (omega arith))
      ∙ ap (λ v. v ∷ down a ps) (vertex_in_place a x l 0 hl (omega arith))

  down_off : down a (place a x l 1 ∷ ps) ≡ down a ps
  unfolding down
  down_off = ap (λ t. cond (eqb t 0) (vertex_in a (place a x l 1) ∷ down a ps) (down a ps)) (stage_in_place a x l 1 hl (omega arith))

module _ (a : Arena) (r : Ranged a) where
  next_level : (l y : ℕ) → l ≤ a.height / 2 → arrive l (colour_of a y) ≤ a.height / 2
  next_level l y hl = arrive_top l (colour_of a y) a.height hl (colour_low a r y) r.even

  down_lay : (x l : ℕ) (ms : List ℕ) → l ≤ a.height / 2 → down a (lay a x l ms) ≡ passed a x ms
  unfolding lay down
  down_lay x l [] hl = down_on a x l [] hl
  down_lay x l (m ∷ ms) hl =
      let y : ℕ = target_of a x m in
      let j : ℕ = arrive l (colour_of a y) in
      let hj = next_level l y hl in
      let n = down_lay y j ms hj in
      elim (toll_cases (cost_of a x m)) [
        | inl z ↦ ap (down a) (lay_free a x l m ms z.0) ∙ (down_on a x l (lay a y j ms) hl ∙ ap (λ q. x ∷ q) n)
        | inr z ↦ ap (down a) (lay_paid a x l m ms z.0) ∙ (down_on a x l (place a y j 1 ∷ lay a y j ms) hl ∙ ap (λ q. x ∷ q) (down_off a y j (lay a y j ms) hj ∙ n))
      ]

-- an odd colour of the chart, where no position shows a higher one
module _ (h c : ℕ) (odd : c % 2 ≡ 1) (small : c < h + 1) (k l t : ℕ) (le : tint h k l t ≤ c) where
  tint_on : t ≡ 0 → tint h k l t ≡ k
  tint_on e = grind arith

  tint_off : ¬ (t ≡ 0) → tint h k l t ≡ 0
  tint_off e = grind arith

module _ (a : Arena) (ok : may_be_laid a ≡ true) (c : ℕ) (odd : c % 2 ≡ 1) (small : c < a.height + 1) where
  abbrev Under : List ℕ → Type 0
  Under ps = AllByRecursion (λ p. colour_of (waiting a) p ≤ c) ps

  below : (p : ℕ) → Spot a p → colour_of (waiting a) p ≤ c → colour_in a p ≤ c
  below p h e = le_trans (le_of_eq (sym (colour_there a ok p h))) e

  on_is : (p : ℕ) → Spot a p → colour_of (waiting a) p ≤ c → stage_in p ≡ 0 → colour_of (waiting a) p ≡ colour_of a (vertex_in a p)
  on_is p h e z = colour_there a ok p h ∙ tint_on a.height c odd small (colour_of a (vertex_in a p)) (level_in a p) (stage_in p) (below p h e) z

  off_is : (p : ℕ) → Spot a p → colour_of (waiting a) p ≤ c → ¬ (stage_in p ≡ 0) → colour_of (waiting a) p ≡ 0
  off_is p h e z = colour_there a ok p h ∙ tint_off a.height c odd small (colour_of a (vertex_in a p)) (level_in a p) (stage_in p) (below p h e) z

  down_under : (ps : List ℕ) → AllByRecursion (Spot a) ps → Under ps → AllByRecursion (λ x. colour_of a x ≤ c) (down a ps)
  unfolding down
  down_under [] h u = tt
  down_under (p ∷ ps) h u = elim (ℕ_discrete (stage_in p) 0) [
    | yes e ↦ rw e (le_trans (le_of_eq (sym (on_is p h.0 u.0 e))) u.0, down_under ps h.1 u.1)
    | no d ↦ let e : eqb (stage_in p) 0 ≡ false = grind arith in rw e (down_under ps h.1 u.1)
  ]

  down_tally : (ps : List ℕ) → AllByRecursion (Spot a) ps → Under ps →
      tally (λ p. same (colour_of (waiting a) p) c) ps ≤ tally (λ x. same (colour_of a x) c) (down a ps)
  unfolding down
  down_tally [] h u = omega arith
  down_tally (p ∷ ps) h u =
      let n = down_tally ps h.1 u.1 in
      elim (ℕ_discrete (stage_in p) 0) [
        | yes e ↦ let s = on_is p h.0 u.0 e in rw (s, e) (omega arith)
        | no d ↦
            let s = off_is p h.0 u.0 d in
            let e : eqb (stage_in p) 0 ≡ false = grind arith in
            let z = same_no 0 c (λ q. absurd (omega arith)) in
            rw (s, e) (omega arith)
      ]

-- the list begins with ps; after the first ones, it goes on with ps
abbrev Starts : List ℕ → List ℕ → Type 0
Starts [] xs = Unit
Starts (p ∷ ps) [] = ⊥
Starts (p ∷ ps) (x ∷ xs) = (p ≡ x) × Starts ps xs

abbrev Holds : List ℕ → List ℕ → List ℕ → Type 0
Holds [] ps xs = Starts ps xs
Holds (b ∷ bs) ps [] = ⊥
Holds (b ∷ bs) ps (x ∷ xs) = Holds bs ps xs

starts_join : (ps qs : List ℕ) → Starts ps (ps ++ qs)
starts_join [] qs = tt
starts_join (p ∷ ps) qs = (refl, starts_join ps qs)

holds_join : (bs ps qs : List ℕ) → Holds bs ps (bs ++ (ps ++ qs))
holds_join [] ps qs = starts_join ps qs
holds_join (b ∷ bs) ps qs = holds_join bs ps qs

-- what becomes of the level l and its request of the colour q, at the vertex y
data Turn (a : Arena) (l q y : ℕ) : Type 0 where
  off : arrive l (colour_of a y) ≡ 0 → Turn a l q y
  still : arrive l (colour_of a y) ≡ l → answers a q y ≡ false → Turn a l q y
  up : l < arrive l (colour_of a y) → colour_of a y % 2 ≡ 1 → colour_of a y + 1 ≡ 2 * arrive l (colour_of a y) → answers a q y ≡ false → Turn a l q y

turn : (a : Arena) (l q y : ℕ) → 0 < l → q + 1 ≡ 2 * l → Turn a l q y
turn a l q y h e = elim (ℕ_discrete (colour_of a y % 2) 1) [
  | yes o ↦ elim (dec_le (colour_of a y + 1) (2 * l)) [ yes k ↦ still (grind arith) (grind arith) | no k ↦ up (grind arith) o (grind arith) (grind arith) ]
  | no o ↦ elim (dec_le (2 * l) (colour_of a y)) [ yes k ↦ off (grind arith) | no k ↦ still (grind arith) (grind arith) ]
]

worst_opened : (a : Arena) (x : ℕ) (ms : List ℕ) → colour_of a x % 2 ≡ 1 → wait a (colour_of a x) x ms ≤ worst_wait a x ms
worst_opened a x ms o = le_trans (le_of_eq (sym (wait_asked a x ms o))) (worst_over a x ms)

worst_tail : (a : Arena) (x m : ℕ) (ms : List ℕ) → worst_wait a (target_of a x m) ms ≤ worst_wait a x (m ∷ ms)
worst_tail a x m ms = le-max_right _ _

vertex_tint : (h k l : ℕ) → k ≤ h → tint h k l 0 ≡ h + 1 → ⊥
vertex_tint h k l e z = grind arith

-- Tolls paid while something waits. A level stands for a request, and where the level rises, a
-- higher request is open: so with each of the levels, no more tolls are paid than the waits allow.
module _ (a : Arena) (r : Ranged a) (ok : may_be_laid a ≡ true) (B : ℕ) where
  abbrev X : ℕ
  X = a.height + 1

  abbrev tolls : List ℕ → ℕ
  tolls ps = tally (λ p. same (colour_of (waiting a) p) X) ps

  abbrev Low : List ℕ → Type 0
  Low ps = AllByRecursion (λ p. colour_of (waiting a) p ≤ X) ps

  -- a position at a vertex is no toll
  no_toll : (x l p : ℕ) → l ≤ a.height / 2 → x < size a → p ≡ place a x l 0 → same (colour_of (waiting a) p) X ≡ 0
  no_toll x l p hl hx e = same_no _ X (λ q. vertex_tint a.height (colour_of a x) l (colour_low a r x)
      (sym (colour_at a ok x l hx hl 0 (omega arith)) ∙ (ap (colour_of (waiting a)) (sym e) ∙ q)))

  -- at level 0 nothing stands under X
  shut : (y : ℕ) (ms ps : List ℕ) → y < size a → Starts ps (lay a y 0 ms) → Low ps → tolls ps ≡ 0
  shut y ms [] hy st un = refl
  shut y ms (p ∷ ps) hy st un = absurd (
      let h = lay_head a y 0 ms in
      let e : p ≡ place a y 0 0 = (subst (Starts (p ∷ ps)) h.1 st).0 in
      let s : colour_of (waiting a) p ≡ a.height + 2 = ap (colour_of (waiting a)) e ∙ colour_at a ok y 0 hy (omega arith) 0 (omega arith) in
      let k = un.0 in omega arith)

  -- from the level l, with d levels above it and w paid already
  abbrev Few : ℕ → List ℕ → Type 0
  Few y ms = (l d q : ℕ) (ps : List ℕ) (w : ℕ) → 0 < l → l + d ≡ a.height / 2 → q + 1 ≡ 2 * l → Starts ps (lay a y l ms) → Low ps →
      w + wait a q y ms ≤ B → tolls ps + w ≤ (d + 1) * B

  after_step : (y : ℕ) (ms : List ℕ) → y < size a → Few y ms → worst_wait a y ms ≤ B → (l d q : ℕ) (ps : List ℕ) (w : ℕ) → 0 < l → l + d ≡ a.height / 2 → q + 1 ≡ 2 * l →
      Starts ps (lay a y (arrive l (colour_of a y)) ms) → Low ps → w + cond (answers a q y) 0 (wait a q y ms) ≤ B → tolls ps + w ≤ (d + 1) * B
  after_step y ms hy few wo l d q ps w hl hd hq st un le = go (turn a l q y hl hq)
    where
      go : Turn a l q y → tolls ps + w ≤ (d + 1) * B
      go (off z) = let s = shut y ms ps hy (subst (λ j. Starts ps (lay a y j ms)) z st) un in omega arith
      go (still z t) = few l d q ps w hl hd hq (subst (λ j. Starts ps (lay a y j ms)) z st) un (rw t at le)
      go (up h o e t) =
          let j : ℕ = arrive l (colour_of a y) in
          let hj : j ≤ a.height / 2 = next_level a r l y (omega arith) in
          let f : j + (a.height / 2 - j) ≡ a.height / 2 = omega arith in
          let n = few j (a.height / 2 - j) (colour_of a y) ps 0 (omega arith) f e st un (let k = worst_opened a y ms o in omega arith) in
          let b : a.height / 2 - j + 1 ≤ d = omega arith in
          let c = mul-le-mul_right B b in
          let v : w ≤ B = omega arith in
          omega arith

  -- the same behind a toll
  paid : (y : ℕ) (ms : List ℕ) → y < size a → Few y ms → worst_wait a y ms ≤ B → (l d q : ℕ) (ps : List ℕ) (w cost : ℕ) → 0 < l → l + d ≡ a.height / 2 → q + 1 ≡ 2 * l →
      0 < cost → Starts ps (place a y (arrive l (colour_of a y)) 1 ∷ lay a y (arrive l (colour_of a y)) ms) → Low ps →
      w + cost + cond (answers a q y) 0 (wait a q y ms) ≤ B → tolls ps + w ≤ (d + 1) * B
  paid y ms hy ih wy l d q [] w cost hl hd hq pos st un le = omega arith
  paid y ms hy ih wy l d q (p ∷ ps) w cost hl hd hq pos st un le =
      let n = after_step y ms hy ih wy l d q ps (w + cost) hl hd hq st.1 un.1 le in
      let s = same_le (colour_of (waiting a) p) X in
      omega arith

  few_tolls : (ms : List ℕ) (x : ℕ) → x < size a → Voyage a x ms → worst_wait a x ms ≤ B → Few x ms
  unfolding lay
  few_tolls ms x hx lg wo l d q [] w hl hd hq st un le = omega arith
  few_tolls [] x hx lg wo l d q (p ∷ []) w hl hd hq st un le = let z = no_toll x l p (omega arith) hx st.0 in omega arith
  few_tolls [] x hx lg wo l d q (p ∷ (p' ∷ ps)) w hl hd hq st un le = absurd st.1
  few_tolls (m ∷ ms) x hx lg wo l d q (p ∷ ps) w hl hd hq st un le =
      let y : ℕ = target_of a x m in
      let hy = target_low a r x m lg.0 in
      let wy : worst_wait a y ms ≤ B = le_trans (worst_tail a x m ms) wo in
      let ih : Few y ms = few_tolls ms y hy lg.1 wy in
      let z = no_toll x l p (omega arith) hx st.0 in
      elim (toll_cases (cost_of a x m)) [
        | inl c ↦ let n = after_step y ms hy ih wy l d q ps w hl hd hq (rw c.0 at st.1) un.1 (let e = c.0 in omega arith) in omega arith
        | inr c ↦
            let e : eqb (cost_of a x m) 0 ≡ false = grind arith in
            let n = paid y ms hy ih wy l d q ps w (cost_of a x m) hl hd hq c.0 (rw e at st.1) un.1 (omega arith) in
            omega arith
      ]

  -- the request that the level l stands for
  abbrev Open : ℕ → ℕ → List ℕ → Type 0
  Open x l ms = (l ≡ 0) ⊎ ((0 < l) × (q : ℕ) × (q + 1 ≡ 2 * l) × (wait a q x ms ≤ B))

  first_tolls : (ms : List ℕ) (x l : ℕ) → x < size a → l ≤ a.height / 2 → Voyage a x ms → worst_wait a x ms ≤ B → Open x l ms → (ps : List ℕ) →
      Starts ps (lay a x l ms) → Low ps → tolls ps ≤ a.height / 2 * B
  first_tolls ms x l hx hl lg wo (inl z) ps st un = let s = shut x ms ps hx (subst (λ j. Starts ps (lay a x j ms)) z st) un in omega arith
  first_tolls ms x l hx hl lg wo (inr o) ps st un =
      let h : 0 < l = o.0 in
      let n = few_tolls ms x hx lg wo l (a.height / 2 - l) o.1 ps 0 h (omega arith) o.2 st un (let z = o.3 in omega arith) in
      let m : a.height / 2 - l + 1 ≤ a.height / 2 = omega arith in
      let b = mul-le-mul_right B m in
      omega arith

  first_open : (y : ℕ) (ms : List ℕ) → worst_wait a y ms ≤ B → Open y (first_level a y) ms
  first_open y ms wy = elim (ℕ_discrete (colour_of a y % 2) 1) [
    | yes o ↦ inr (grind arith, colour_of a y, grind arith, le_trans (worst_opened a y ms o) wy)
    | no o ↦ inl (grind arith)
  ]

  turned : (y l q cost : ℕ) (ms : List ℕ) → worst_wait a y ms ≤ B → 0 < l → q + 1 ≡ 2 * l → cost + cond (answers a q y) 0 (wait a q y ms) ≤ B → Turn a l q y →
      Open y (arrive l (colour_of a y)) ms
  turned y l q cost ms wy hl hq le (off z) = inl z
  turned y l q cost ms wy hl hq le (still z t) = inr (omega arith, q, omega arith, (let h = rw t at le in omega arith))
  turned y l q cost ms wy hl hq le (up h o e t) = inr (omega arith, colour_of a y, e, le_trans (worst_opened a y ms o) wy)

  next_open : (x m l : ℕ) (ms : List ℕ) → worst_wait a x (m ∷ ms) ≤ B → Open x l (m ∷ ms) → Open (target_of a x m) (arrive l (colour_of a (target_of a x m))) ms
  next_open x m l ms wo (inl z) = subst (λ n. Open (target_of a x m) (arrive n (colour_of a (target_of a x m))) ms) (sym z) (first_open _ ms (le_trans (worst_tail a x m ms) wo))
  next_open x m l ms wo (inr t) = turned (target_of a x m) l t.1 (cost_of a x m) ms (le_trans (worst_tail a x m ms) wo) t.0 t.2 t.3 (turn a l t.1 _ t.0 t.2)

  behind : (t : ℕ) (xs : List ℕ) → ((bs ps : List ℕ) → Holds bs ps xs → Low ps → tolls ps ≤ a.height / 2 * B + 1) →
      ((ps : List ℕ) → Starts ps xs → Low ps → tolls ps ≤ a.height / 2 * B) → (bs ps : List ℕ) → Holds bs ps (t ∷ xs) → Low ps → tolls ps ≤ a.height / 2 * B + 1
  behind t xs ih first [] [] st un = omega arith
  behind t xs ih first [] (p ∷ ps) st un = let n = first ps st.1 un.1 in let s = same_le (colour_of (waiting a) p) X in omega arith
  behind t xs ih first (b ∷ bs) ps st un = ih bs ps st un

  tolls_low : (ms : List ℕ) (x l : ℕ) → x < size a → l ≤ a.height / 2 → Voyage a x ms → worst_wait a x ms ≤ B → Open x l ms → (bs ps : List ℕ) →
      Holds bs ps (lay a x l ms) → Low ps → tolls ps ≤ a.height / 2 * B + 1
  unfolding lay
  tolls_low ms x l hx hl lg wo o [] ps st un = let n = first_tolls ms x l hx hl lg wo o ps st un in omega arith
  tolls_low [] x l hx hl lg wo o (b ∷ []) [] st un = omega arith
  tolls_low [] x l hx hl lg wo o (b ∷ []) (p ∷ ps) st un = absurd st
  tolls_low [] x l hx hl lg wo o (b ∷ (b' ∷ bs)) ps st un = absurd st
  tolls_low (m ∷ ms) x l hx hl lg wo o (b ∷ bs) ps st un =
      let y : ℕ = target_of a x m in
      let j : ℕ = arrive l (colour_of a y) in
      let hy : y < size a = target_low a r x m lg.0 in
      let hj : j ≤ a.height / 2 = next_level a r l y hl in
      let wy : worst_wait a y ms ≤ B = le_trans (worst_tail a x m ms) wo in
      let oy : Open y j ms = next_open x m l ms wo o in
      let ih : (bs ps : List ℕ) → Holds bs ps (lay a y j ms) → Low ps → tolls ps ≤ a.height / 2 * B + 1 = tolls_low ms y j hy hj lg.1 wy oy in
      elim (toll_cases (cost_of a x m)) [
        | inl c ↦ ih bs ps (rw c.0 at st) un
        | inr c ↦
            let e : eqb (cost_of a x m) 0 ≡ false = grind arith in
            behind (place a y j 1) (lay a y j ms) ih (λ qs. first_tolls ms y j hy hj lg.1 wy oy qs) bs ps (rw e at st) un
      ]

  -- where no wait passes B, what the positions show more than K + (h/2) B + 1 times the vertices
  -- show more than K times
  pub few_below : (K v : ℕ) (ms : List ℕ) → v < size a → Voyage a v ms → worst_wait a v ms ≤ B → AllByRecursion (Spot a) (lay a v (first_level a v) ms) →
      Shows (colour_of (waiting a)) (K + (a.height / 2 * B + 1)) (lay a v (first_level a v) ms) → Shows (colour_of a) K (passed a v ms)
  few_below K v ms hv lg wo spots w =
      let l : ℕ = first_level a v in
      let hl : l ≤ a.height / 2 = next_level a r 0 v (omega arith) in
      let part_low : AllByRecursion (Spot a) w.part = all_front _ w.part w.after (all_back _ w.before (w.part ++ w.after) (subst (AllByRecursion (Spot a)) w.is spots)) in
      let o = w.odd in
      let f = w.often in
      let even = r.even in
      elim (dec_le (a.height + 1) w.shown) [
        | no h ↦
            let small : w.shown < a.height + 1 = omega arith in
            let t = down_tally a ok w.shown w.odd small w.part part_low w.under in
            record {
              shown = w.shown;
              odd = w.odd;
              before = down a w.before;
              part = down a w.part;
              after = down a w.after;
              is = sym (down_lay a r v l ms hl) ∙ (ap (down a) w.is ∙ (down_join a w.before (w.part ++ w.after) ∙ ap (λ z. down a w.before ++ z) (down_join a w.part w.after)));
              under = down_under a ok w.shown w.odd small w.part part_low w.under;
              often = omega arith;
            }
        | yes h ↦ elim (ℕ_discrete w.shown (a.height + 1)) [
          | yes e ↦
              let un : Low w.part = subst (λ n. AllByRecursion (λ p. colour_of (waiting a) p ≤ n) w.part) e w.under in
              let n = tolls_low ms v l hv hl lg wo (first_open v ms wo) w.before w.part (subst (Holds w.before w.part) (sym w.is) (holds_join w.before w.part w.after)) un in
              let g : K + (a.height / 2 * B + 1) < tolls w.part = subst (λ n. K + (a.height / 2 * B + 1) < tally (λ p. same (colour_of (waiting a) p) n) w.part) e w.often in
              absurd (omega arith)
          | no d ↦
              let z = tally_none (λ p. same (colour_of (waiting a) p) w.shown) w.part
              (All-weaker _ (λ p. same (colour_of (waiting a) p) w.shown ≡ 0)
              (λ p (s : Spot a p). same_no _ _ (λ q. absurd (let t = tint_low a.height (colour_of a (vertex_in a p)) (level_in a p) (stage_in p) (colour_low a r _) in let c = colour_there a ok p s in omega arith)))
              w.part part_low) in
              absurd (omega arith)
        ]
      ]
