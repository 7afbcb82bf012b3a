-- A drawn chart is the plain sheet of its calls, and solve writes a claim exactly where it can.
use Rattle.std.proofs.Common.{◌≡◌, ℕ, zero, suc, ◌*◌, ◌<◌, ◌≤◌, Bool, true, false, cond, ◌&&◌, ltb, leb, ◌↔◌, List, [], ◌∷◌, length, get_or, sym, refl, ap, ◌∙◌, subst, inl, inr, arith}
use native.Mathlib.Decide.{dec_le}
use Rattle.std.proofs.lemmas.List.{length_push}
use Rattle.std.proofs.lemmas.Bool.{cases_lt, lt-ltb, le-ltb, le-leb, lt-leb, ltb-true, and_parts, and_from, and_left, and_right, cond-true, cond-false, cases_Bool}
use Rattle.chart.specs.Arena.{Arena, size}
use Rattle.chart.specs.Refusals.{Outcome, done, refused}
use Rattle.game.specs.Reading.{no_vertex, degree_of}
use Rattle.game.specs.Waiting.{positions}
use Rattle.drawn.specs.Rules.{place_outcome, placed, join_outcome, joined, strike_outcome, struck, degree_at, move_count, after}
use Rattle.drawn.proofs.Adjusted.{length_adjusted}
use Rattle.drawn.proofs.Outcomes.{place_full, place_done, join_from, join_to, join_dear, join_full, join_done, strike_absent, strike_none, strike_done}
use Rattle.promise.specs.Tables.{Tables, entries, LongEnough}
use Rattle.promise.specs.Rules.{Cause, dead_end, too_large, short_table, short_memory, wrong_mark, wrong_plan_entry, wrong_counter_entry, leaves_marks, odd_loop, costly_loop, wrong_bound, no_counter_move, even_loop, number, Applies}
use Rattle.promise.specs.Solving.{Solved}
use Rattle.promise.specs.Sheets.{Call, place, join, strike, solve, check, after_call, after_calls, Sheet, takes, drawn_on, sheet_after}
use Rattle.promise.specs.Promise.{EveryVertexMoves, Suffices, WritesAClaim}

-- a sheet as a chart
abbrev pub charted : Sheet → Arena
charted s = record { height = 8; vertices = s }

-- the sheet after one call
abbrev next : Sheet → Call → Sheet
next s c = cond (takes s c) (drawn_on s c) s

degree_is : (s : Sheet) (v : ℕ) → degree_at (charted s) v ≡ length (get_or s v no_vertex).moves
degree_is [] v = refl
degree_is (x ∷ s) zero = refl
degree_is (x ∷ s) (suc v) = degree_is s v

-- where the call's own rule is to be done, and the sheet takes it
taken : {A : Type 0} (o : Outcome A) (x : A) (b : Bool) (new old : Sheet) → o ≡ done x → b ≡ true → after o (charted new) (charted old) ≡ charted (cond b new old)
taken o x b new old e f = ap (λ z. after z (charted new) (charted old)) e ∙ ap charted (sym (cond-true b new old f))

-- where it is to be refused, and the sheet does not
left : {A : Type 0} (o : Outcome A) (n p : ℕ) (b : Bool) (new old : Sheet) → o ≡ refused n p → b ≡ false → after o (charted new) (charted old) ≡ charted (cond b new old)
left o n p b new old e f = ap (λ z. after z (charted new) (charted old)) e ∙ ap charted (sym (cond-false b new old f))

step_place : (s : Sheet) (owner colour : ℕ) → placed (charted s) owner colour ≡ charted (next s (place owner colour))
step_place s owner colour = elim (cases_lt 1 owner) [
  | inl h ↦ left (place_outcome (charted s) owner colour) 1 0 _ _ _ (rw (lt-ltb 1 owner h)) (and_left _ _ (and_left _ _ (lt-leb owner 1 h)))
  | inr known ↦ elim (cases_lt 8 colour) [
    | inl h ↦ left (place_outcome (charted s) owner colour) 2 0 _ _ _ (rw (le-ltb 1 owner known, lt-ltb 8 colour h)) (and_left _ _ (and_right _ _ (lt-leb colour 8 h)))
    | inr low ↦ elim (cases_lt (length s) 128) [
      | inl h ↦ taken (place_outcome (charted s) owner colour) _ _ _ _ (place_done (charted s) owner colour known low h) (and_from _ _ (and_from _ _ (le-leb owner 1 known) (le-leb colour 8 low)) (lt-ltb (length s) 128 h))
      | inr h ↦ left (place_outcome (charted s) owner colour) 3 0 _ _ _ (place_full (charted s) owner colour known low h) (and_right _ _ (le-ltb (length s) 128 h))
    ]
  ]
]

step_join : (s : Sheet) (from to cost : ℕ) → joined (charted s) from to cost ≡ charted (next s (join from to cost))
step_join s from to cost = elim (cases_lt from (length s)) [
  | inr h ↦ left o 4 0 _ _ _ (join_from (charted s) from to cost h) (and_left _ _ (and_left _ _ (and_left _ _ (le-ltb from (length s) h))))
  | inl f ↦ elim (cases_lt to (length s)) [
    | inr h ↦ left o 4 0 _ _ _ (join_to (charted s) from to cost h) (and_left _ _ (and_left _ _ (and_right _ _ (le-ltb to (length s) h))))
    | inl t ↦ elim (cases_lt 10000 cost) [
      | inl h ↦ left o 5 0 _ _ _ (join_dear (charted s) from to cost f t h) (and_left _ _ (and_right _ _ (lt-leb cost 10000 h)))
      | inr c ↦ elim (cases_lt (move_count s) 1024) [
        | inr h ↦ left o 6 0 _ _ _ (join_full (charted s) from to cost f t c h) (and_right _ _ (le-ltb (move_count s) 1024 h))
        | inl h ↦ taken o _ _ _ _ (join_done (charted s) from to cost f t c h)
            (and_from _ _ (and_from _ _ (and_from _ _ (lt-ltb from (length s) f) (lt-ltb to (length s) t)) (le-leb cost 10000 c)) (lt-ltb (move_count s) 1024 h))
      ]
    ]
  ]
]
  where
    o : Outcome ℕ
    o = join_outcome (charted s) from to cost

step_strike : (s : Sheet) (vertex number : ℕ) → struck (charted s) vertex number ≡ charted (next s (strike vertex number))
step_strike s vertex number = elim (cases_lt vertex (length s)) [
  | inr h ↦ left (strike_outcome (charted s) vertex number) 4 0 _ _ _ (strike_absent (charted s) vertex number h) (and_left _ _ (le-ltb vertex (length s) h))
  | inl f ↦ elim (cases_lt number (length (get_or s vertex no_vertex).moves)) [
    | inr h ↦ left (strike_outcome (charted s) vertex number) 7 0 _ _ _
        (strike_none (charted s) vertex number f (let e = degree_is s vertex in omega arith)) (and_right _ _ (le-ltb number (length (get_or s vertex no_vertex).moves) h))
    | inl h ↦ taken (strike_outcome (charted s) vertex number) tt _ _ _
        (strike_done (charted s) vertex number f (let e = degree_is s vertex in omega arith)) (and_from _ _ (lt-ltb vertex (length s) f) (lt-ltb number (length (get_or s vertex no_vertex).moves) h))
  ]
]

step_is : (s : Sheet) (c : Call) → after_call (charted s) c ≡ charted (next s c)
step_is s (place owner colour) = step_place s owner colour
step_is s (join from to cost) = step_join s from to cost
step_is s (strike vertex number) = step_strike s vertex number
step_is s (solve tables room) = refl
step_is s (check tables bound room) = refl

pub sheet_is : (s : Sheet) (cs : List Call) → after_calls (charted s) cs ≡ charted (sheet_after s cs)
sheet_is s [] = refl
sheet_is s (c ∷ cs) = ap (λ a. after_calls a cs) (step_is s c) ∙ sheet_is (next s c) cs

-- it has at most 128 vertices
next_few : (s : Sheet) (c : Call) → length s ≤ 128 → length (next s c) ≤ 128
next_few s c h = elim (cases_Bool (takes s c)) [
  | inr e ↦ subst (λ n. n ≤ 128) (sym (ap length (cond-false (takes s c) (drawn_on s c) s e))) h
  | inl e ↦ subst (λ n. n ≤ 128) (sym (ap length (cond-true (takes s c) (drawn_on s c) s e))) (few s c e h)
]
  where
    few : (s : Sheet) (c : Call) → takes s c ≡ true → length s ≤ 128 → length (drawn_on s c) ≤ 128
    few s (place owner colour) e h = let k : length s < 128 = ltb-true (length s) 128 (and_parts (leb owner 1 && leb colour 8) (ltb (length s) 128) e).1 in let l = length_push s (record { owner = owner; colour = colour; moves = [] }) in omega arith
    few s (join from to cost) e h = subst (λ n. n ≤ 128) (sym (length_adjusted _ s from)) h
    few s (strike vertex number) e h = subst (λ n. n ≤ 128) (sym (length_adjusted _ s vertex)) h
    few s (solve tables room) e h = h
    few s (check tables bound room) e h = h

pub sheet_few : (s : Sheet) (cs : List Call) → length s ≤ 128 → length (sheet_after s cs) ≤ 128
sheet_few s [] h = h
sheet_few s (c ∷ cs) h = sheet_few (next s c) cs (next_few s c h)

pub dec_long : (a : Arena) (t : Tables) → Dec (LongEnough a t)
dec_long a t = elim (dec_le (size a) (length t.marks)) [
  | no n ↦ no (λ l. n l.marks)
  | yes m ↦ elim (dec_le (size a) (length t.plan)) [
    | no n ↦ no (λ l. n l.plan)
    | yes p ↦ elim (dec_le (entries a) (length t.counterplay)) [ no n ↦ no (λ l. n l.counterplay) | yes c ↦ yes (record { marks = m; plan = p; counterplay = c }) ]
  ]
]

-- on a chart over which the waiting chart may be laid
module _ (a : Arena) (few : positions a ≤ 4096) (low : a.height ≤ 28) (before after : Tables) (room : ℕ) where
  -- where solve can, none of its refusals applies
  not_refused : EveryVertexMoves a → Suffices a before room → (bound p : ℕ) (c : Cause) → number c ≤ 11 → ¬ Applies a before bound room c p
  not_refused moves long bound p dead_end h x = let m = moves p x.0 in let e = x.1 in omega arith
  not_refused moves long bound p too_large h x = elim x.1 [ inl l ↦ omega arith | inr l ↦ omega arith ]
  not_refused moves long bound p short_table h x = x.1 long.0
  not_refused moves long bound p short_memory h x = let l = x.1 in let k = long.1 in omega arith
  not_refused moves long bound p wrong_mark h x = omega arith
  not_refused moves long bound p wrong_plan_entry h x = omega arith
  not_refused moves long bound p wrong_counter_entry h x = omega arith
  not_refused moves long bound p leaves_marks h x = omega arith
  not_refused moves long bound p odd_loop h x = omega arith
  not_refused moves long bound p costly_loop h x = omega arith
  not_refused moves long bound p wrong_bound h x = omega arith
  not_refused moves long bound p no_counter_move h x = omega arith
  not_refused moves long bound p even_loop h x = omega arith

  pub solved_exactly : (o : Outcome (ℕ × ℕ)) → Solved a before after room o → WritesAClaim a after room o ↔ (EveryVertexMoves a × Suffices a before room)
  solved_exactly (done x) s = (
    (λ w. (
      (λ v h. elim (dec_le 1 (degree_of a v)) [ yes k ↦ k | no n ↦ absurd (s.0.0 dead_end v (h, omega arith)) ]),
      (long, elim (dec_le (12 * positions a) room) [ yes k ↦ k | no n ↦ absurd (s.0.0 short_memory 0 (refl, omega arith)) ]),
    )),
    λ k. (x, refl, s.0),
  )
    where
      long : LongEnough a before
      long = elim (dec_long a after) [
        | no n ↦ absurd (s.0.0 short_table 0 (refl, n))
        | yes l ↦ record {
          marks = (let e = s.2.marks.long in let k = l.marks in omega arith);
          plan = (let e = s.2.plan.long in let k = l.plan in omega arith);
          counterplay = (let e = s.2.counterplay.long in let k = l.counterplay in omega arith);
        }
      ]
  solved_exactly (refused n p) s =
      let c = s.1 0 in (
        (λ w. absurd (let e = w.1 in let z : ◌≡◌ {A = ℕ} 0 1 = cc in omega arith)),
        λ k. absurd (not_refused k.0 k.1 0 p c.0 (let h = s.0 in let e = c.1 in omega arith) c.2.applies),
      )
