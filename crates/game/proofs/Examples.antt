-- Voyages on the worked charts, computed; and three tempting falsehoods shown false.
use Rattle.chart.specs.Arena.{Arena, size}
use Rattle.walks.specs.Games.{Walk, last, step, Inside, Loop}
use Rattle.walks.specs.Showings.{same, tally}
use Rattle.game.specs.Reading.{owner_of, colour_of, degree_of, target_of, cost_of}
use Rattle.game.specs.Voyages.{Voyage, passed, requests, wait, worst_wait, unanswered, still_waiting, highest_waiting}
use Rattle.game.specs.Held.{Plan, Follows, Held}
use Rattle.game.specs.Claims.{PlanStep}
use Rattle.game.specs.Waiting.{positions, moves_in, colour_in, may_be_laid, waiting, first}
use Rattle.game.specs.Bounds.{greatest_wait}
use Rattle.game.specs.Worked.{ours, to, chart, empty, answered, waiting_free, waiting_dear, asked_again, put_off, put_off_dear, dear_answer, asked_twice, outbid, too_low}
use Rattle.std.proofs.Common.{◌≡◌, ℕ, zero, suc, ◌+◌, ◌%◌, ◌<◌, ◌≤◌, max, Bool, true, false, cond, eqb, ltb, List, [], ◌∷◌, ◌++◌, replicate, sym, refl, ap, ◌∙◌, subst, le_trans, arith}
use native.Mathlib.Nat.{le-max_left}
use Rattle.walks.proofs.Long.{same_le, same_no, tally_join}

-- What is told of a voyage: the vertices passed, its worst wait, and the colours waiting at its end.
pub record Told (a : Arena) (v : ℕ) (ms : List ℕ) (way : List ℕ) (worst : ℕ) (left : List ℕ) (top : ℕ) : Type 0 where
  pub way_is : passed a v ms ≡ way
  pub worst_is : worst_wait a v ms ≡ worst
  pub left_is : still_waiting a v ms ≡ left
  pub top_is : highest_waiting a v ms ≡ top

-- an answered request
told_1 : Told answered 0 (0 ∷ []) (0 ∷ 1 ∷ []) 3 [] 0
unfolding colour_of target_of cost_of
told_1 = record { way_is = refl; worst_is = refl; left_is = refl; top_is = refl }

-- asked again at the start, the request waits from there
told_2 : Told answered 0 (0 ∷ 0 ∷ []) (0 ∷ 1 ∷ 0 ∷ []) 3 (1 ∷ []) 1
unfolding colour_of target_of cost_of
told_2 = record { way_is = refl; worst_is = refl; left_is = refl; top_is = refl }

-- no request at the start
told_3 : Told answered 1 (0 ∷ 0 ∷ 0 ∷ []) (1 ∷ 0 ∷ 1 ∷ 0 ∷ []) 3 (1 ∷ []) 1
unfolding colour_of target_of cost_of
told_3 = record { way_is = refl; worst_is = refl; left_is = refl; top_is = refl }

-- a request that waits to the end, at no cost after the first move
told_4 : Told waiting_free 0 (0 ∷ 0 ∷ 0 ∷ []) (0 ∷ 1 ∷ 1 ∷ 1 ∷ []) 1 (1 ∷ []) 1
unfolding colour_of target_of cost_of
told_4 = record { way_is = refl; worst_is = refl; left_is = refl; top_is = refl }

-- one that waits to the end, and pays for it
told_5 : Told waiting_dear 0 (0 ∷ 0 ∷ 0 ∷ 0 ∷ []) (0 ∷ 1 ∷ 1 ∷ 1 ∷ 1 ∷ []) 4 (1 ∷ []) 1
unfolding colour_of target_of cost_of
told_5 = record { way_is = refl; worst_is = refl; left_is = refl; top_is = refl }

-- no requests at all
told_6 : Told waiting_dear 1 (0 ∷ 0 ∷ 0 ∷ []) (1 ∷ 1 ∷ 1 ∷ 1 ∷ []) 0 [] 0
unfolding colour_of target_of cost_of
told_6 = record { way_is = refl; worst_is = refl; left_is = refl; top_is = refl }

-- a request put off once, then answered
told_7 : Told put_off 0 (0 ∷ 0 ∷ 1 ∷ []) (0 ∷ 1 ∷ 1 ∷ 2 ∷ []) 3 [] 0
unfolding colour_of target_of cost_of
told_7 = record { way_is = refl; worst_is = refl; left_is = refl; top_is = refl }

-- the dear way to the answer costs 7 once
told_8 : Told dear_answer 0 (0 ∷ 1 ∷ 0 ∷ 0 ∷ []) (0 ∷ 0 ∷ 1 ∷ 2 ∷ 0 ∷ []) 7 [] 0
unfolding colour_of target_of cost_of
told_8 = record { way_is = refl; worst_is = refl; left_is = refl; top_is = refl }

-- the cheap way away from it waits ever longer
told_9 : Told dear_answer 1 (1 ∷ 0 ∷ 0 ∷ []) (1 ∷ 0 ∷ 0 ∷ 0 ∷ []) 15 (1 ∷ []) 1
unfolding colour_of target_of cost_of
told_9 = record { way_is = refl; worst_is = refl; left_is = refl; top_is = refl }

-- two requests of one colour: the first waits the longest, and both wait until the answer
told_10 : Told asked_twice 0 (0 ∷ 0 ∷ []) (0 ∷ 1 ∷ 2 ∷ []) 5 [] 0
unfolding colour_of target_of cost_of
told_10 = record { way_is = refl; worst_is = refl; left_is = refl; top_is = refl }

told_11 : Told asked_twice 0 (0 ∷ []) (0 ∷ 1 ∷ []) 2 (1 ∷ 1 ∷ []) 1
unfolding colour_of target_of cost_of
told_11 = record { way_is = refl; worst_is = refl; left_is = refl; top_is = refl }

-- the lower request waits longer than the highest
told_12 : Told outbid 0 (0 ∷ []) (0 ∷ 1 ∷ []) 5 (1 ∷ 3 ∷ []) 3
unfolding colour_of target_of cost_of
told_12 = record { way_is = refl; worst_is = refl; left_is = refl; top_is = refl }

told_13 : Told outbid 0 (0 ∷ 0 ∷ []) (0 ∷ 1 ∷ 2 ∷ []) 6 [] 0
unfolding colour_of target_of cost_of
told_13 = record { way_is = refl; worst_is = refl; left_is = refl; top_is = refl }

-- an answer that is too low answers nothing
told_14 : Told too_low 0 (0 ∷ 0 ∷ []) (0 ∷ 1 ∷ 0 ∷ []) 6 (3 ∷ 3 ∷ []) 3
unfolding colour_of target_of cost_of
told_14 = record { way_is = refl; worst_is = refl; left_is = refl; top_is = refl }

-- a request made again and again, at no cost: no wait at all, yet the odd colour comes as often as
-- the harbour likes
told_15 : Told asked_again 0 (0 ∷ 0 ∷ []) (0 ∷ 0 ∷ 0 ∷ []) 0 (1 ∷ 1 ∷ 1 ∷ []) 1
unfolding colour_of target_of cost_of
told_15 = record { way_is = refl; worst_is = refl; left_is = refl; top_is = refl }

-- The greatest waits under plans by the first move of each vertex.
bounds_told : (greatest_wait empty (λ v. true) (λ v. 0) ≡ 0) × (greatest_wait answered (λ v. true) (λ v. 0) ≡ 3) × (greatest_wait waiting_free (λ v. true) (λ v. 0) ≡ 1) ×
    (greatest_wait waiting_dear (λ v. eqb v 1) (λ v. 0) ≡ 0) × (greatest_wait put_off (λ v. true) (λ v. 0) ≡ 3) × (greatest_wait dear_answer (λ v. true) (λ v. 0) ≡ 7)
unfolding colour_of target_of cost_of degree_of owner_of
bounds_told = (refl, refl, refl, refl, refl, refl)

-- The waiting chart over a chart of two vertices has twenty positions; the request's vertex is
-- first met at level 1.
positions_told : (positions answered ≡ 20) × (may_be_laid answered ≡ true) × (size (waiting answered) ≡ 20) × (first answered 0 ≡ 2) × (first answered 1 ≡ 10)
unfolding colour_of waiting
positions_told = (refl, refl, refl, refl, refl)

-- At vertex 0 and level 1 the move is to the toll of vertex 1 at level 0, where nothing waits any
-- more.
moves_told : (moves_in answered 2 ≡ to 11 0 ∷ []) × (moves_in answered 11 ≡ to 10 0 ∷ []) × (colour_in answered 2 ≡ 1) × (colour_in answered 11 ≡ 0) × (colour_in answered 10 ≡ 10)
unfolding colour_of
moves_told = (refl, refl, refl, refl, refl)

-- Two waiting charts lie over 34 vertices of height 8, and not over 35.
laid_twice : (may_be_laid (waiting (chart (replicate 34 (ours 0 [])))) ≡ true) × (may_be_laid (waiting (chart (replicate 35 (ours 0 [])))) ≡ false)
unfolding waiting
laid_twice = (refl, refl)

-- False: that following only the highest request gives the worst wait.

-- The greatest wait found while only the highest waiting colour q, 0 for none, is followed, with
-- its wait w so far.
follow : Arena → ℕ → ℕ → ℕ → List ℕ → ℕ
follow a q w v [] = w
follow a q w v (m ∷ ms) =
    let y : ℕ = target_of a v m in
    let more : ℕ = cond (eqb q 0) 0 (w + cost_of a v m) in
    max more (cond (ltb q (colour_of a y)) (follow a (cond (requests a y) (colour_of a y) 0) 0 y ms) (follow a q more y ms))

pub follow_highest : Arena → ℕ → List ℕ → ℕ
follow_highest a v ms = follow a (cond (requests a v) (colour_of a v) 0) 0 v ms

pub highest_is_not_enough : ¬ ((a : Arena) (v : ℕ) (ms : List ℕ) → follow_highest a v ms ≡ worst_wait a v ms)
unfolding follow follow_highest colour_of target_of cost_of
highest_is_not_enough h = let e : ◌≡◌ {A = ℕ} 5 6 = h outbid 0 (0 ∷ 0 ∷ []) in omega arith

-- False: that an unanswered request always loses.

module _ where
  free_on : (ms : List ℕ) → Voyage waiting_free 1 ms → (wait waiting_free 1 1 ms ≡ 0) × (worst_wait waiting_free 1 ms ≡ 0) × (unanswered waiting_free 1 1 ms ≡ true)
  unfolding colour_of target_of cost_of degree_of
  free_on [] f = (refl, refl, refl)
  free_on (zero ∷ ms) f = let r = free_on ms f.1 in (let e = r.0 in omega arith, (let e = r.1 in omega arith), r.2)
  free_on (suc m ∷ ms) f = absurd (omega arith)

  free_tally : (c : ℕ) → c % 2 ≡ 1 → (ms : List ℕ) → Voyage waiting_free 1 ms → tally (λ x. same (colour_of waiting_free x) c) (passed waiting_free 1 ms) ≡ 0
  unfolding colour_of target_of degree_of
  free_tally c o [] f = let e = same_no 0 c (λ z. absurd (omega arith)) in omega arith
  free_tally c o (zero ∷ ms) f = let e = same_no 0 c (λ z. absurd (omega arith)) in let r = free_tally c o ms f.1 in omega arith
  free_tally c o (suc m ∷ ms) f = absurd (omega arith)

  shown_once : (c : ℕ) → c % 2 ≡ 1 → (ms : List ℕ) → Voyage waiting_free 0 ms → tally (λ x. same (colour_of waiting_free x) c) (passed waiting_free 0 ms) ≤ 1
  unfolding colour_of target_of degree_of
  shown_once c o [] f = let e = same_le 1 c in omega arith
  shown_once c o (zero ∷ ms) f = let e = same_le 1 c in let r = free_tally c o ms f.1 in omega arith
  shown_once c o (suc m ∷ ms) f = absurd (omega arith)

  waits_once : (ms : List ℕ) → Voyage waiting_free 0 ms → (worst_wait waiting_free 0 ms ≤ 1) × (unanswered waiting_free 1 0 ms ≡ true)
  unfolding colour_of target_of cost_of degree_of
  waits_once [] f = (omega arith, refl)
  waits_once (zero ∷ ms) f = let r = free_on ms f.1 in (let e = r.0 in let d = r.1 in rw (e, d) (omega arith), r.2)
  waits_once (suc m ∷ ms) f = absurd (omega arith)

  free_held : Held waiting_free 0
  free_held =
      record {
        there = omega arith;
        plan = λ past. 0;
        bound = 1;
        often = 1;
        picks = λ ms f g o d. d;
        waits = λ ms f g. (waits_once ms f).0;
        shows = λ ms f g w.
            let t = shown_once w.shown w.odd ms f in
            let count : ℕ → ℕ = λ x. same (colour_of waiting_free x) w.shown in
            let e : tally count (passed waiting_free 0 ms) ≡ tally count (w.before ++ (w.part ++ w.after)) = ap (tally count) w.is in
            let i = tally_join count w.before (w.part ++ w.after) in
            let j = tally_join count w.part w.after in
            let k : 1 < tally count w.part = w.often in
            omega arith;
      }

pub unanswered_may_be_held : ¬ ((a : Arena) (v : ℕ) → requests a v ≡ true → ((ms : List ℕ) → Voyage a v ms → unanswered a (colour_of a v) v ms ≡ true) → ¬ Held a v)
unfolding colour_of
unanswered_may_be_held h = h waiting_free 0 refl (λ ms f. (waits_once ms f).1) free_held

-- False: that even loops suffice.

-- the harbour puts off the answer n times
dear_on : (n : ℕ) → (Voyage put_off_dear 1 (replicate n 0)) × (wait put_off_dear 1 1 (replicate n 0) ≡ n) × ((plan : Plan) → Follows put_off_dear plan 1 (replicate n 0))
unfolding colour_of target_of cost_of degree_of owner_of
dear_on zero = (tt, refl, λ plan. tt)
dear_on (suc n) = let r = dear_on n in ((omega arith, r.0), (let e = r.1 in omega arith), λ plan. ((λ o. absurd (let z : ◌≡◌ {A = ℕ} 1 0 = o in omega arith)), r.2 (λ past. plan (0 ∷ past))))

pub put_off_dear_lost : ¬ Held put_off_dear 0
unfolding colour_of target_of cost_of degree_of owner_of
put_off_dear_lost h =
    let n : ℕ = h.bound in
    let r = dear_on n in
    let p : h.plan [] < 1 = h.picks [] tt tt refl (omega arith) in
    let w : worst_wait put_off_dear 0 (0 ∷ replicate n 0) ≤ n = h.waits (0 ∷ replicate n 0) (omega arith, r.0) ((λ o. omega arith), r.2 (λ past. h.plan (0 ∷ past))) in
    let k : 1 + wait put_off_dear 1 1 (replicate n 0) ≤ n = le_trans (le-max_left _ _) w in
    let e = r.1 in
    omega arith

dear_moves : (v : ℕ) → v < 3 → 0 < degree_of put_off_dear v
unfolding degree_of
dear_moves zero h = omega arith
dear_moves (suc zero) h = omega arith
dear_moves (suc (suc zero)) h = omega arith
dear_moves (suc (suc (suc v))) h = absurd (omega arith)

dear_closed : (x m : ℕ) → m < degree_of put_off_dear x → target_of put_off_dear x m < 3
unfolding degree_of target_of
dear_closed zero zero h = omega arith
dear_closed zero (suc m) h = absurd (omega arith)
dear_closed (suc zero) zero h = omega arith
dear_closed (suc zero) (suc zero) h = omega arith
dear_closed (suc zero) (suc (suc m)) h = absurd (omega arith)
dear_closed (suc (suc zero)) zero h = omega arith
dear_closed (suc (suc zero)) (suc m) h = absurd (omega arith)
dear_closed (suc (suc (suc x))) m h = absurd (omega arith)

-- below colour 2 the ways lead to vertex 1 and stay there
abbrev Low : ℕ → ℕ → Type 0
Low = Inside (λ x. colour_of put_off_dear x ≤ 1) (PlanStep put_off_dear (λ v. 0))

low_target : (x m : ℕ) → x ≤ 1 → m < degree_of put_off_dear x → colour_of put_off_dear (target_of put_off_dear x m) ≤ 1 → target_of put_off_dear x m ≡ 1
unfolding degree_of target_of colour_of
low_target zero zero h k l = refl
low_target zero (suc m) h k l = absurd (omega arith)
low_target (suc zero) zero h k l = refl
low_target (suc zero) (suc zero) h k l = absurd (omega arith)
low_target (suc zero) (suc (suc m)) h k l = absurd (omega arith)
low_target (suc (suc x)) m h k l = absurd (omega arith)

low_step : (x y : ℕ) → x ≤ 1 → Low x y → y ≡ 1
low_step x y h e =
    let m : ℕ = e.2.0 in
    let t : target_of put_off_dear x m ≡ y = e.2.3 in
    sym t ∙ low_target x m h e.2.1 (subst (λ z. colour_of put_off_dear z ≤ 1) (sym t) e.1)

low_walk : {x y : ℕ} → Walk Low x y → x ≤ 1 → y ≡ 1
low_walk (last e) h = low_step _ _ h e
low_walk (step e w) h = low_walk w (let k = low_step _ _ h e in omega arith)

dear_loops : (u : ℕ) → colour_of put_off_dear u % 2 ≡ 1 → ¬ Loop (colour_of put_off_dear) (PlanStep put_off_dear (λ v. 0)) u
unfolding colour_of
dear_loops zero o w = let e : ◌≡◌ {A = ℕ} 0 1 = low_walk w (omega arith) in omega arith
dear_loops (suc zero) o w = absurd (omega arith)
dear_loops (suc (suc zero)) o w = absurd (omega arith)
dear_loops (suc (suc (suc u))) o w = absurd (omega arith)

three : (v : ℕ) → ltb v 3 ≡ true → v < 3
three v e = grind arith

three_back : (v : ℕ) → v < 3 → ltb v 3 ≡ true
three_back v h = grind arith

pub even_loops_do_not_suffice : ¬ ((a : Arena) (marked : ℕ → Bool) (s : ℕ → ℕ) → ((v : ℕ) → marked v ≡ true → owner_of a v ≡ 0 → s v < degree_of a v) →
    ((x y : ℕ) → marked x ≡ true → PlanStep a s x y → marked y ≡ true) →
    ((u : ℕ) → marked u ≡ true → colour_of a u % 2 ≡ 1 → ¬ Loop (colour_of a) (PlanStep a s) u) → (v : ℕ) → marked v ≡ true → Held a v)
even_loops_do_not_suffice h =
    put_off_dear_lost (h put_off_dear (λ v. ltb v 3) (λ v. 0) (λ v m o. dear_moves v (three v m))
    (λ x y m e. three_back y (subst (λ z. z < 3) e.3 (dear_closed x e.0 e.1))) (λ u m o. dear_loops u o) 0 refl)
