-- The bound has no part in any cause but its own, and no bound but one is accepted.
use Rattle.std.proofs.Common.{◌≡◌, ℕ, ◌<◌, refl, le_of_eq, arith}
use Rattle.chart.specs.Arena.{Arena, Ranged}
use Rattle.chart.specs.Refusals.{refused}
use Rattle.promise.specs.Tables.{Tables}
use Rattle.promise.specs.Rules.{Cause, dead_end, too_large, short_table, short_memory, wrong_mark, wrong_plan_entry, wrong_counter_entry, leaves_marks, odd_loop, costly_loop, wrong_bound, no_counter_move, even_loop, number, Applies, Accepted, Checked}
use Rattle.promise.proofs.Accepting.{plan_safe, bound_is, one_greatest}

module _ (a : Arena) (t : Tables) (room : ℕ) where
  -- what applies under one bound applies under every other
  same_applies : (b d : ℕ) (c : Cause) (p : ℕ) → ¬ (number c ≡ 18) → Applies a t b room c p → Applies a t d room c p
  same_applies b d dead_end p n x = x
  same_applies b d too_large p n x = x
  same_applies b d short_table p n x = x
  same_applies b d short_memory p n x = x
  same_applies b d wrong_mark p n x = x
  same_applies b d wrong_plan_entry p n x = x
  same_applies b d wrong_counter_entry p n x = x
  same_applies b d leaves_marks p n x = x
  same_applies b d odd_loop p n x = x
  same_applies b d costly_loop p n x = x
  same_applies b d wrong_bound p n x = absurd (n refl)
  same_applies b d no_counter_move p n x = x
  same_applies b d even_loop p n x = x

  -- a refusal before the bound is looked at does not depend on it
  pub any_bound : (b d n p : ℕ) → n < 18 → Checked a t b room (refused n p) → Checked a t d room (refused n p)
  any_bound b d n p h x =
      let c = x.0 in
      let e = x.1 in (
        c,
        e,
        record {
          applies = same_applies b d c p (λ q. absurd (omega arith)) x.2.applies;
          lowest = λ q y. x.2.lowest q (same_applies d b c q (λ k. absurd (omega arith)) y);
          first = λ k l q y. x.2.first k l q (same_applies d b k q (λ z. absurd (omega arith)) y);
        },
      )

  -- with any other bound an accepted claim is refused, and told the right one
  pub other_bound : Ranged a → (bound d : ℕ) → Accepted a t bound room → ¬ (d ≡ bound) → Checked a t d room (refused 18 bound)
  other_bound r bound d ok n =
      let safe = plan_safe a r t bound room (ok wrong_plan_entry) (ok leaves_marks) (ok odd_loop) (ok costly_loop) in
      let g = bound_is a r t bound room safe (ok wrong_bound) in (
        wrong_bound,
        refl,
        record {
          applies = (g, n);
          lowest = λ q y. le_of_eq (one_greatest a t bound q g y.0);
          first = λ k l q y. ok k q (same_applies d bound k q (λ z. absurd (omega arith)) y);
        },
      )
