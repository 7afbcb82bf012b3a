-- Lemmas: the chart of one vertex keeps to the laws of a chart. They stand in specs/ since those laws cite them.
use Rattle.std.specs.Prelude.{◌≡◌, ℕ, zero, suc, ◌%◌, ◌≤◌, is_some, Some, None, nat_lt, refl}
use Rattle.std.proofs.Common.{sym, ap, ◌∙◌, arith}
use Rattle.std.proofs.lemmas.Bool.{le-ltb, ne_eqb, cond-false}
use Rattle.chart.specs.Arena.{Ranged}
use Rattle.chart.specs.Names.{Naming}
use Rattle.waiting_tests.specs.Lone.{lone, naught}

pub lone_ranged : (h : ℕ) → h ≤ 30 → h % 2 ≡ 0 → Ranged (lone h)
lone_ranged h low even = record {
  few = omega arith;
  low = low;
  even = even;
  vertices = (record { owner = omega arith; colour = omega arith; few = omega arith; moves = (record { target = omega arith; cost = omega arith }, tt) }, tt);
}

beyond : (v : ℕ) → naught (suc v) ≡ None
beyond v = cond-false _ (Some 0) None (ne_eqb (suc v) 0 (λ z. omega (arith, z)))

back : (v x : ℕ) → naught v ≡ Some x → naught x ≡ Some v
back zero x e = let same : 0 ≡ x = cc in rw (sym same) refl
back (suc v) x e = (let f : None ≡ Some x = sym (beyond v) ∙ e in cc)

pub naught_named : Naming 1 naught naught
naught_named = record { each = each; back = back; forth = λ v x. back x v }
  where
    each : (v : ℕ) → is_some (naught v) ≡ nat_lt v 1
    each zero = refl
    each (suc v) = ap is_some (beyond v) ∙ sym (le-ltb (suc v) 1 (omega arith))
