-- check leaves one answer at most.
use Rattle.std.proofs.Common.{◌≡◌, ℕ, cond, eqb, sym, refl, ap, ◌∙◌, subst, inl, inr, arith}
use Rattle.std.proofs.lemmas.Bool.{cases_order}
use Rattle.chart.specs.Arena.{Arena}
use Rattle.chart.specs.Refusals.{Outcome, done, refused}
use Rattle.promise.specs.Tables.{Tables}
use Rattle.promise.specs.Rules.{Cause, dead_end, too_large, short_table, short_memory, wrong_mark, wrong_plan_entry, wrong_counter_entry, leaves_marks, odd_loop, costly_loop, wrong_bound, no_counter_move, even_loop, number, Refused, Checked}

-- the cause of a number
abbrev caused : ℕ → Cause
caused n =
    cond (eqb n 8) dead_end (cond (eqb n 9) too_large (cond (eqb n 10) short_table (cond (eqb n 11) short_memory (
    cond (eqb n 12) wrong_mark (cond (eqb n 13) wrong_plan_entry (cond (eqb n 14) wrong_counter_entry (cond (eqb n 15) leaves_marks (
    cond (eqb n 16) odd_loop (cond (eqb n 17) costly_loop (cond (eqb n 18) wrong_bound (cond (eqb n 19) no_counter_move even_loop)))))))))))

caused_back : (c : Cause) → caused (number c) ≡ c
caused_back dead_end = refl
caused_back too_large = refl
caused_back short_table = refl
caused_back short_memory = refl
caused_back wrong_mark = refl
caused_back wrong_plan_entry = refl
caused_back wrong_counter_entry = refl
caused_back leaves_marks = refl
caused_back odd_loop = refl
caused_back costly_loop = refl
caused_back wrong_bound = refl
caused_back no_counter_move = refl
caused_back even_loop = refl

-- causes with one number are one
pub same_cause : (c d : Cause) → number c ≡ number d → c ≡ d
same_cause c d e = sym (caused_back c) ∙ (ap caused e ∙ caused_back d)

module _ (a : Arena) (t : Tables) (bound room : ℕ) where
  one_refusal : (c d : Cause) (p q : ℕ) → Refused a t bound room c p → Refused a t bound room d q → (c ≡ d) × (p ≡ q)
  one_refusal c d p q r s = elim (cases_order (number c) (number d)) [
    | inl e ↦
        let same : c ≡ d = same_cause c d e in
        let k : Refused a t bound room d p = subst (λ x. Refused a t bound room x p) same r in
        (same, (let f = k.lowest q s.applies in let g = s.lowest p k.applies in omega arith))
    | inr (inl l) ↦ absurd (s.first c l p r.applies)
    | inr (inr l) ↦ absurd (r.first d l q s.applies)
  ]

  pub one_answer : (x y : Outcome (ℕ × ℕ)) → Checked a t bound room x → Checked a t bound room y → x ≡ y
  one_answer (done x) (done y) f g = ap done (f.1 ∙ sym g.1)
  one_answer (done x) (refused n p) f g = absurd (f.0 g.0 p g.2.applies)
  one_answer (refused n p) (done y) f g = absurd (g.0 f.0 p f.2.applies)
  one_answer (refused n p) (refused m q) f g =
      let r = one_refusal f.0 g.0 p q f.2 g.2 in
      ap (λ k. refused k p) (sym f.1 ∙ (ap number r.0 ∙ g.1)) ∙ ap (refused m) r.1
