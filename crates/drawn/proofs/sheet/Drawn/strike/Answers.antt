use Rattle.std.proofs.Common.{◌≡◌, Some, None, sym, ap, ◌∙◌, arith, rules}
use Rattle.std.specs.Option.{option_map}
use Rattle.std.specs.List.{slice_get}
use Rattle.chart.specs.Refusals.{outcome, refused}
use Rattle.drawn.specs.Rules.{with_adjusted, without_move}
use Rattle.drawn.specs.Meaning.{rows, sheet}
use Rattle.drawn.specs.Readings.{size_is}
use Rattle.drawn.proofs.Standing.{absent, within, ends_in, degree_is}
use Rattle.drawn.proofs.Outcomes.{strike_absent, strike_none, strike_done, settled}
use Rattle.drawn.proofs.Striking.{cut_total, strike_ordered, strike_tinted, strike_ranged, strike_sheet}
use Rattle.drawn.proofs.sheet.Drawn.strike.Goals as goal

pub returns-in_err-row : goal.returns-in_err-row
returns-in_err-row c =
    let d = c.args.self.now in
    let none : slice_get (rows d) c.args.vertex ≡ None = sym c.row.ensures ∙ ap (option_map (λ r. r.now)) c.in_err-row.ensures.ok_part in
    let gone = absent d c.args.vertex none in
    let said : outcome c.from_residual.result ≡ refused 4 0 = search rules in
    let e = settled _ _ (with_adjusted (sheet d) (without_move c.args.number) c.args.vertex) (sheet d) (strike_absent (sheet d) c.args.vertex c.args.number (omega (arith, size_is d))) in
    record { answer = said ∙ e.answer; after = e.after }

pub returns-then-number-row : goal.returns-then-number-row
returns-then-number-row c =
    let d = c.args.self.now in
    let at : slice_get (rows d) c.args.vertex ≡ Some c.in_ok-row.row.now = sym c.row.ensures ∙ ap (option_map (λ r. r.now)) c.in_ok-row.ensures.ok_part in
    let there = within d c.args.vertex c.in_ok-row.row.now at in
    settled _ _ (with_adjusted (sheet d) (without_move c.args.number) c.args.vertex) (sheet d) (strike_none (sheet d) c.args.vertex c.args.number (omega (arith, size_is d)) (omega (arith, degree_is d c.args.vertex c.in_ok-row.row.now at, c.if-number-row.true)))

pub overflow_add-row : goal.overflow_add-row
overflow_add-row c =
    let e = ends_in c.args.self.now c.args.vertex c.in_ok-row.row.now (sym c.row.ensures ∙ ap (option_map (λ r. r.now)) c.in_ok-row.ensures.ok_part) in
    let few = c.args.self.now.few in
    omega arith

pub without_move-moves-requires : goal.without_move-moves-requires
without_move-moves-requires c =
    let e = ends_in c.args.self.now c.args.vertex c.in_ok-row.row.now (sym c.row.ensures ∙ ap (option_map (λ r. r.now)) c.in_ok-row.ensures.ok_part) in
    record { within = omega arith; few = c.args.self.now.few }

pub resized-rows-requires : goal.resized-rows-requires
resized-rows-requires c =
    let d = c.args.self.now in
    let at : slice_get (rows d) c.args.vertex ≡ Some c.in_ok-row.row.now = sym c.row.ensures ∙ ap (option_map (λ r. r.now)) c.in_ok-row.ensures.ok_part in
    record { within = within d c.args.vertex c.in_ok-row.row.now at; room = d.room; few = cut_total d c.args.vertex _ c.in_ok-row.row.now at (omega arith) }

pub overflow_sub-self : goal.overflow_sub-self
overflow_sub-self c =
    let e = ends_in c.args.self.now c.args.vertex c.in_ok-row.row.now (sym c.row.ensures ∙ ap (option_map (λ r. r.now)) c.in_ok-row.ensures.ok_part) in
    omega arith

pub invariant_of-self : goal.invariant_of-self
invariant_of-self c =
    let d = c.args.self.now in
    let few = d.few in
    let at : slice_get (rows d) c.args.vertex ≡ Some c.in_ok-row.row.now = sym c.row.ensures ∙ ap (option_map (λ r. r.now)) c.in_ok-row.ensures.ok_part in
    let there = c.if-number-row.false in
    let rows = c.resized-rows.ensures.front in
    record {
      wide = c.resized-rows.ensures.len;
      long = c.without_move-moves.ensures.len;
      room = d.room;
      few = omega arith;
      ordered = strike_ordered d c.args.vertex c.args.number c.in_ok-row.row.now at there _ rows;
      tinted = strike_tinted d c.args.vertex c.args.number c.in_ok-row.row.now at there _ rows;
      ranged = strike_ranged d c.args.vertex c.args.number c.in_ok-row.row.now at there _ rows _ c.without_move-moves.ensures.front;
    }

pub returns : goal.returns
returns c =
    let d = c.args.self.now in
    let r = c.in_ok-row.row.now in
    let at : slice_get (rows d) c.args.vertex ≡ Some r = sym c.row.ensures ∙ ap (option_map (λ r. r.now)) c.in_ok-row.ensures.ok_part in
    let h = within d c.args.vertex r at in
    let there = c.if-number-row.false in
    let e = settled _ _ (with_adjusted (sheet d) (without_move c.args.number) c.args.vertex) (sheet d) (strike_done (sheet d) c.args.vertex c.args.number (omega (arith, size_is d)) (omega (arith, degree_is d c.args.vertex r at))) in
    record {
      answer = e.answer;
      after = strike_sheet d c.args.vertex c.args.number r at there _ c.resized-rows.ensures.front _ c.without_move-moves.ensures.front ∙ e.after;
    }
