-- On every chart that keeps to the ranges check has an answer, and it can be worked out.
use Rattle.std.proofs.Common.{◌≡◌, ℕ, zero, suc, ◌*◌, ◌<◌, ◌≤◌, Bool, true, false, cond, not, ◌||◌, eqb, ltb, List, Some, None, Decides, Option, sym, refl, ap, ◌∙◌, subst, inl, inr, arith}
use native.Mathlib.Decide.{ℕ_discrete, dec_le}
use Rattle.std.proofs.lemmas.Bool.{cases_Bool, cases_order, both_ways, eqb-true, eqb-false, cond-true, cond-false}
use Rattle.std.proofs.lemmas.Bool.Decides.{Decides-like, Decides-eqb, Decides-ltb, Decides-not, Decides-or}
use Rattle.chart.specs.Arena.{Arena, size, Ranged}
use Rattle.chart.specs.Refusals.{Outcome, done, refused}
use Rattle.game.specs.Reading.{degree_of}
use Rattle.game.specs.Waiting.{positions, may_be_laid, waiting}
use Rattle.game.specs.Claims.{SafePlan}
use Rattle.game.specs.Bounds.{GreatestWait, greatest_wait}
use Rattle.game.proofs.Positions.{waiting_size}
use Rattle.promise.specs.Tables.{Tables, entries, mark_of, plan_of, Marked, marks_counted}
use Rattle.promise.specs.Rules.{Cause, dead_end, too_large, short_table, short_memory, wrong_mark, wrong_plan_entry, wrong_counter_entry, leaves_marks, odd_loop, costly_loop, wrong_bound, no_counter_move, even_loop, number, Met, Applies, Checked}
use Rattle.promise.proofs.OneAnswer.{same_cause}
use Rattle.promise.proofs.Accepting.{marked, one_greatest, plan_safe, greatest_is, may_lay, met_low}
use Rattle.promise.proofs.Tests.{long_test, long_decides, plan_entry_test, plan_entry_decides, counter_entry_test, counter_entry_decides, leaves_test, leaves_decides, odd_loop_test, odd_loop_decides, odd_test, costly_test, costly_loop_decides, counter_rows, mets_by, no_counter_test, no_counter_decides, even_loop_test, even_loop_decides}

abbrev or_else : Option ℕ → Option ℕ → Option ℕ
or_else (Some x) y = Some x
or_else None y = y

-- the lowest number below n that passes
abbrev pub lowest : (ℕ → Bool) → ℕ → Option ℕ
lowest test zero = None
lowest test (suc n) = or_else (lowest test n) (cond (test n) (Some n) None)

abbrev Found : (ℕ → Bool) → ℕ → Option ℕ → Type 0
Found test n (Some p) = (p < n) × (test p ≡ true) × ((q : ℕ) → q < p → test q ≡ false)
Found test n None = (q : ℕ) → q < n → test q ≡ false

found : (test : ℕ → Bool) (n : ℕ) → Found test n (lowest test n)
found test zero = λ q h. absurd (omega arith)
found test (suc n) = go (lowest test n) (found test n) (test n) refl
  where
    last : (q : ℕ) → ((q : ℕ) → q < n → test q ≡ false) → test n ≡ false → q < suc n → test q ≡ false
    last q f e h = elim (ℕ_discrete q n) [ yes d ↦ ap test d ∙ e | no d ↦ f q (omega arith) ]

    go : (o : Option ℕ) → Found test n o → (b : Bool) → test n ≡ b → Found test (suc n) (or_else o (cond b (Some n) None))
    go (Some p) f b e = ((let h = f.0 in omega arith), f.1, f.2)
    go None f true e = (omega arith, e, f)
    go None f false e = λ q h. last q f e h

-- the lowest place, if there is one
abbrev pub Finds : (ℕ → Type 0) → Option ℕ → Type 0
Finds P (Some p) = P p × ((q : ℕ) → P q → p ≤ q)
Finds P None = (q : ℕ) → ¬ P q

lowest_finds : (P : ℕ → Type 0) (test : ℕ → Bool) (n : ℕ) → ((p : ℕ) → p < n → Decides (test p) (P p)) → ((p : ℕ) → P p → p < n) → Finds P (lowest test n)
lowest_finds P test n tells low = go (lowest test n) (found test n)
  where
    go : (o : Option ℕ) → Found test n o → Finds P o
    go (Some p) f = ((tells p f.0).0 f.1, λ q x. elim (dec_le p q) [ yes h ↦ h | no h ↦ absurd (both_ways _ (f.2 q (omega arith)) ((tells q (low q x)).1 x)) ])
    go None f = λ q x. both_ways _ (f q (low q x)) ((tells q (low q x)).1 x)

-- what is asked of a place among the first n
within : {P : Type 0} (n p : ℕ) (b : Bool) → p < n → Decides b P → Decides b ((p < n) × P)
within n p b h d = Decides-like b (λ x. (h, x)) (λ x. x.1) d

-- what has the place 0
at_zero : {P : Type 0} (p : ℕ) (b : Bool) → p < 1 → Decides b P → Decides b ((p ≡ 0) × P)
at_zero p b h d = Decides-like b (λ x. (omega arith, x)) (λ x. x.1) d

-- the refusal if there is a place, else what comes next
abbrev pub or_refused : ℕ → Option ℕ → Outcome (ℕ × ℕ) → Outcome (ℕ × ℕ)
or_refused n (Some p) rest = refused n p
or_refused n None rest = rest

-- the last two causes, where w is the waiting chart
abbrev counter_answer : Tables → Arena → List (List ℕ) → List ℕ → Outcome (ℕ × ℕ) → Outcome (ℕ × ℕ)
counter_answer t w rows mets rest =
    or_refused 19 (lowest (no_counter_test t w mets) (size w)) (
    or_refused 20 (lowest (even_loop_test w rows mets) (size w)) rest)

-- check's answer
abbrev pub answer : Arena → Tables → (bound room : ℕ) → Outcome (ℕ × ℕ)
answer a t bound room =
    or_refused 8 (lowest (λ v. eqb (degree_of a v) 0) (size a)) (
    or_refused 9 (lowest (λ p. ltb 4096 (positions a) || ltb 28 a.height) 1) (
    or_refused 10 (lowest (λ p. not (long_test a t)) 1) (
    or_refused 11 (lowest (λ p. ltb room (12 * positions a)) 1) (
    or_refused 12 (lowest (λ v. not (eqb (mark_of t v) 0 || eqb (mark_of t v) 1)) (size a)) (
    or_refused 13 (lowest (λ v. not (plan_entry_test a t v)) (size a)) (
    or_refused 14 (lowest (λ e. not (counter_entry_test a t e)) (entries a)) (
    or_refused 15 (lowest (leaves_test a t) (size a)) (
    or_refused 16 (lowest (odd_loop_test a t) (size a)) (
    or_refused 17 (lowest (odd_test a t (costly_test a t)) (size a)) (
    or_refused 18 (cond (eqb bound (greatest_wait a (marked a t) (plan_of t))) None (Some (greatest_wait a (marked a t) (plan_of t)))) (
    counter_answer t (waiting a) (counter_rows (waiting a) t) (mets_by a t (waiting a) (counter_rows (waiting a) t)) (
    done (marks_counted a t, bound)))))))))))))

number_low : (c : Cause) → number c ≤ 20
number_low dead_end = omega arith
number_low too_large = omega arith
number_low short_table = omega arith
number_low short_memory = omega arith
number_low wrong_mark = omega arith
number_low wrong_plan_entry = omega arith
number_low wrong_counter_entry = omega arith
number_low leaves_marks = omega arith
number_low odd_loop = omega arith
number_low costly_loop = omega arith
number_low wrong_bound = omega arith
number_low no_counter_move = omega arith
number_low even_loop = omega arith

number_high : (c : Cause) → 8 ≤ number c
number_high dead_end = omega arith
number_high too_large = omega arith
number_high short_table = omega arith
number_high short_memory = omega arith
number_high wrong_mark = omega arith
number_high wrong_plan_entry = omega arith
number_high wrong_counter_entry = omega arith
number_high leaves_marks = omega arith
number_high odd_loop = omega arith
number_high costly_loop = omega arith
number_high wrong_bound = omega arith
number_high no_counter_move = omega arith
number_high even_loop = omega arith

module _ (a : Arena) (r : Ranged a) (t : Tables) (bound room : ℕ) where
  abbrev At : Cause → ℕ → Type 0
  At = Applies a t bound room

  abbrev NoneAt : Cause → Type 0
  NoneAt c = (p : ℕ) → ¬ At c p

  -- no cause of a number below n applies
  abbrev Before : ℕ → Type 0
  Before n = (c : Cause) → number c < n → NoneAt c

  before_next : (c : Cause) (n : ℕ) → number c ≡ n → Before n → NoneAt c → Before (suc n)
  before_next c n e b none d h = elim (cases_order (number d) n) [
    | inl q ↦ subst NoneAt (sym (same_cause d c (q ∙ sym e))) none
    | inr (inl l) ↦ b d l
    | inr (inr l) ↦ absurd (omega arith)
  ]

  try : (c : Cause) (n : ℕ) → number c ≡ n → (o : Option ℕ) (rest : Outcome (ℕ × ℕ)) → Before n → Finds (At c) o → (Before (suc n) → Checked a t bound room rest) → Checked a t bound room (or_refused n o rest)
  try c n e (Some p) rest b f on = (c, e, record { applies = f.0; lowest = f.1; first = λ d h. b d (omega arith) })
  try c n e None rest b f on = on (before_next c n e b f)

  finds_dead_end : Finds (At dead_end) (lowest (λ v. eqb (degree_of a v) 0) (size a))
  finds_dead_end = lowest_finds _ _ _ (λ v h. within (size a) v _ h (Decides-eqb (degree_of a v) 0)) (λ v x. x.0)

  finds_too_large : Finds (At too_large) (lowest (λ p. ltb 4096 (positions a) || ltb 28 a.height) 1)
  finds_too_large = lowest_finds _ _ _ (λ p h. at_zero p _ h (Decides-or _ _ (Decides-ltb 4096 (positions a)) (Decides-ltb 28 a.height))) (λ p x. omega (arith, x.0))

  finds_short_table : Finds (At short_table) (lowest (λ p. not (long_test a t)) 1)
  finds_short_table = lowest_finds _ _ _ (λ p h. at_zero p _ h (Decides-not _ (long_decides a t))) (λ p x. omega (arith, x.0))

  finds_short_memory : Finds (At short_memory) (lowest (λ p. ltb room (12 * positions a)) 1)
  finds_short_memory = lowest_finds _ _ _ (λ p h. at_zero p _ h (Decides-ltb room (12 * positions a))) (λ p x. omega (arith, x.0))

  finds_wrong_mark : Finds (At wrong_mark) (lowest (λ v. not (eqb (mark_of t v) 0 || eqb (mark_of t v) 1)) (size a))
  finds_wrong_mark = lowest_finds _ _ _ (λ v h. within (size a) v _ h (Decides-not _ (Decides-or _ _ (Decides-eqb (mark_of t v) 0) (Decides-eqb (mark_of t v) 1)))) (λ v x. x.0)

  finds_wrong_plan_entry : Finds (At wrong_plan_entry) (lowest (λ v. not (plan_entry_test a t v)) (size a))
  finds_wrong_plan_entry = lowest_finds _ _ _ (λ v h. within (size a) v _ h (Decides-not _ (plan_entry_decides a t v))) (λ v x. x.0)

  finds_wrong_counter_entry : Finds (At wrong_counter_entry) (lowest (λ e. not (counter_entry_test a t e)) (entries a))
  finds_wrong_counter_entry = lowest_finds _ _ _ (λ e h. within (entries a) e _ h (Decides-not _ (counter_entry_decides a t e))) (λ e x. x.0)

  finds_leaves_marks : Finds (At leaves_marks) (lowest (leaves_test a t) (size a))
  finds_leaves_marks = lowest_finds _ _ _ (λ v h. leaves_decides a t v) (λ v x. x.0.0)

  finds_odd_loop : Finds (At odd_loop) (lowest (odd_loop_test a t) (size a))
  finds_odd_loop = lowest_finds _ _ _ (λ v h. odd_loop_decides a r t v) (λ v x. x.0.0)

  finds_costly_loop : Finds (At costly_loop) (lowest (odd_test a t (costly_test a t)) (size a))
  finds_costly_loop = lowest_finds _ _ _ (λ v h. costly_loop_decides a r t v) (λ v x. x.0.0)

  finds_wrong_bound : SafePlan a (Marked a t) (plan_of t) →
      Finds (At wrong_bound) (cond (eqb bound (greatest_wait a (marked a t) (plan_of t))) None (Some (greatest_wait a (marked a t) (plan_of t))))
  finds_wrong_bound safe = go (greatest_wait a (marked a t) (plan_of t)) (greatest_is a r t bound room safe)
    where
      go : (w : ℕ) → GreatestWait a (Marked a t) (plan_of t) w → Finds (At wrong_bound) (cond (eqb bound w) None (Some w))
      go w g = elim (cases_Bool (eqb bound w)) [
        | inl e ↦ subst (Finds (At wrong_bound)) (sym (cond-true (eqb bound w) None (Some w) e)) (λ q x. x.1 (eqb-true bound w e ∙ one_greatest a t w q g x.0))
        | inr e ↦ subst (Finds (At wrong_bound)) (sym (cond-false (eqb bound w) None (Some w) e))
            ((g, eqb-false bound w e), λ q x. (let k = one_greatest a t w q g x.0 in omega arith))
      ]

  abbrev mets : List ℕ
  mets = mets_by a t (waiting a) (counter_rows (waiting a) t)

  met_there : may_be_laid a ≡ true → (p : ℕ) → Met a t p → p < size (waiting a)
  met_there ok p m = let h = met_low a r t bound room ok m in let e = waiting_size a ok in omega arith

  finds_no_counter : may_be_laid a ≡ true → Finds (At no_counter_move) (lowest (no_counter_test t (waiting a) mets) (size (waiting a)))
  finds_no_counter ok = lowest_finds _ _ _ (λ p h. no_counter_decides a r t p) (λ p x. met_there ok p x.0)

  finds_even_loop : may_be_laid a ≡ true → Finds (At even_loop) (lowest (even_loop_test (waiting a) (counter_rows (waiting a) t) mets) (size (waiting a)))
  finds_even_loop ok = lowest_finds _ _ _ (λ p h. even_loop_decides a r t p) (λ p x. met_there ok p x.0)

  -- once the plan is known to be safe and the waiting chart to be laid
  counter_checked : may_be_laid a ≡ true → Before 19 → Checked a t bound room (counter_answer t (waiting a) (counter_rows (waiting a) t) mets (done (marks_counted a t, bound)))
  counter_checked ok b =
      try no_counter_move 19 refl _ _ b (finds_no_counter ok) (λ b.
      try even_loop 20 refl _ _ b (finds_even_loop ok) (λ b.
      ((λ c. b c (let h = number_low c in omega arith)), refl)))

  bound_checked : Before 18 → Checked a t bound room
      (or_refused 18 (cond (eqb bound (greatest_wait a (marked a t) (plan_of t))) None (Some (greatest_wait a (marked a t) (plan_of t))))
      (counter_answer t (waiting a) (counter_rows (waiting a) t) mets (done (marks_counted a t, bound))))
  bound_checked b =
      try wrong_bound 18 refl _ _ b
      (finds_wrong_bound (plan_safe a r t bound room (b wrong_plan_entry (omega arith)) (b leaves_marks (omega arith)) (b odd_loop (omega arith)) (b costly_loop (omega arith))))
      (counter_checked (may_lay a r t bound room (b too_large (omega arith))))

  pub answer_checked : Checked a t bound room (answer a t bound room)
  answer_checked =
      try dead_end 8 refl _ _ (λ c h. absurd (let k = number_high c in omega arith)) finds_dead_end (λ b.
      try too_large 9 refl _ _ b finds_too_large (λ b.
      try short_table 10 refl _ _ b finds_short_table (λ b.
      try short_memory 11 refl _ _ b finds_short_memory (λ b.
      try wrong_mark 12 refl _ _ b finds_wrong_mark (λ b.
      try wrong_plan_entry 13 refl _ _ b finds_wrong_plan_entry (λ b.
      try wrong_counter_entry 14 refl _ _ b finds_wrong_counter_entry (λ b.
      try leaves_marks 15 refl _ _ b finds_leaves_marks (λ b.
      try odd_loop 16 refl _ _ b finds_odd_loop (λ b.
      try costly_loop 17 refl _ _ b finds_costly_loop bound_checked)))))))))
