use Rattle.std.proofs.Common.{◌≡◌, Some, None, sym, ap, ◌∙◌, arith, rules}
use Rattle.std.specs.Option.{option_map}
use Rattle.std.specs.List.{slice_get}
use Rattle.chart.specs.Refusals.{outcome, done, refused}
use Rattle.drawn.specs.Rules.{with_adjusted, with_move}
use Rattle.drawn.specs.Meaning.{rows, sheet}
use Rattle.drawn.specs.Readings.{size_is}
use Rattle.drawn.proofs.Standing.{count_is, absent, within, ends_in, degree_is}
use Rattle.drawn.proofs.Outcomes.{join_from, join_to, join_dear, join_full, join_done, settled}
use Rattle.drawn.proofs.Joining.{grown_total, join_ordered, join_tinted, join_ranged, join_sheet}
use Rattle.drawn.proofs.sheet.Drawn.join.Goals as goal

pub returns-in_err-row : goal.returns-in_err-row
returns-in_err-row c =
    let d = c.args.self.now in
    let none : slice_get (rows d) c.args.from ≡ None = sym c.row.ensures ∙ ap (option_map (λ r. r.now)) c.in_err-row.ensures.ok_part in
    let gone = absent d c.args.from none in
    let said : outcome c.from_residual.result ≡ refused 4 0 = search rules in
    let e = settled _ _ (with_adjusted (sheet d) (with_move (record { target = c.args.to; cost = c.args.cost })) c.args.from) (sheet d) (join_from (sheet d) c.args.from c.args.to c.args.cost (omega (arith, size_is d))) in
    record { answer = said ∙ e.answer; after = e.after }

pub returns-then-to-count : goal.returns-then-to-count
returns-then-to-count c =
    let d = c.args.self.now in
    settled _ _ (with_adjusted (sheet d) (with_move (record { target = c.args.to; cost = c.args.cost })) c.args.from) (sheet d) (join_to (sheet d) c.args.from c.args.to c.args.cost (omega (arith, size_is d, c.if-to-count.true)))

pub returns-then-cost-gt-DEAREST : goal.returns-then-cost-gt-DEAREST
returns-then-cost-gt-DEAREST c =
    let d = c.args.self.now in
    let n = size_is d in
    let h = within d c.args.from c.in_ok-row.row.now (sym c.row.ensures ∙ ap (option_map (λ r. r.now)) c.in_ok-row.ensures.ok_part) in
    settled _ _ (with_adjusted (sheet d) (with_move (record { target = c.args.to; cost = c.args.cost })) c.args.from) (sheet d) (join_dear (sheet d) c.args.from c.args.to c.args.cost (omega arith) (omega arith) (omega (arith, c.if-cost-gt-DEAREST.true)))

pub returns-then-used-ge-MOST_MOVES : goal.returns-then-used-ge-MOST_MOVES
returns-then-used-ge-MOST_MOVES c =
    let d = c.args.self.now in
    let n = size_is d in
    let h = within d c.args.from c.in_ok-row.row.now (sym c.row.ensures ∙ ap (option_map (λ r. r.now)) c.in_ok-row.ensures.ok_part) in
    settled _ _ (with_adjusted (sheet d) (with_move (record { target = c.args.to; cost = c.args.cost })) c.args.from) (sheet d) (join_full (sheet d) c.args.from c.args.to c.args.cost (omega arith) (omega arith) c.if-cost-gt-DEAREST.false (omega (arith, count_is d, c.if-used-ge-MOST_MOVES.true)))

pub overflow_add-row : goal.overflow_add-row
overflow_add-row c =
    let e = ends_in c.args.self.now c.args.from c.in_ok-row.row.now (sym c.row.ensures ∙ ap (option_map (λ r. r.now)) c.in_ok-row.ensures.ok_part) in
    let few = c.args.self.now.few in
    omega arith

pub with_move-moves-requires : goal.with_move-moves-requires
with_move-moves-requires c = record { within = ends_in c.args.self.now c.args.from c.in_ok-row.row.now (sym c.row.ensures ∙ ap (option_map (λ r. r.now)) c.in_ok-row.ensures.ok_part); room = c.if-used-ge-MOST_MOVES.false }

pub overflow_add-number : goal.overflow_add-number
overflow_add-number c =
    let e = ends_in c.args.self.now c.args.from c.in_ok-row.row.now (sym c.row.ensures ∙ ap (option_map (λ r. r.now)) c.in_ok-row.ensures.ok_part) in
    let few = c.args.self.now.few in
    omega arith

pub resized-rows-requires : goal.resized-rows-requires
resized-rows-requires c =
    let d = c.args.self.now in
    let at : slice_get (rows d) c.args.from ≡ Some c.in_ok-row.row.now = sym c.row.ensures ∙ ap (option_map (λ r. r.now)) c.in_ok-row.ensures.ok_part in
    record { within = within d c.args.from c.in_ok-row.row.now at; room = d.room; few = omega (arith, grown_total d c.args.from c.in_ok-row.row.now at, c.if-used-ge-MOST_MOVES.false) }

pub invariant_of-self : goal.invariant_of-self
invariant_of-self c =
    let d = c.args.self.now in
    let at : slice_get (rows d) c.args.from ≡ Some c.in_ok-row.row.now = sym c.row.ensures ∙ ap (option_map (λ r. r.now)) c.in_ok-row.ensures.ok_part in
    let rows = c.resized-rows.ensures.front in
    record {
      wide = c.resized-rows.ensures.len;
      long = c.with_move-moves.ensures.len;
      room = d.room;
      few = omega arith;
      ordered = join_ordered d c.args.from c.in_ok-row.row.now at _ rows;
      tinted = join_tinted d c.args.from c.in_ok-row.row.now at _ rows;
      ranged = join_ranged d c.args.from c.in_ok-row.row.now at _ rows _ c.args.cost _ c.with_move-moves.ensures.front (omega arith) c.if-cost-gt-DEAREST.false;
    }

pub returns : goal.returns
returns c =
    let d = c.args.self.now in
    let n = size_is d in
    let r = c.in_ok-row.row.now in
    let at : slice_get (rows d) c.args.from ≡ Some r = sym c.row.ensures ∙ ap (option_map (λ r. r.now)) c.in_ok-row.ensures.ok_part in
    let h = within d c.args.from r at in
    let e = settled _ _ (with_adjusted (sheet d) (with_move (record { target = c.args.to; cost = c.args.cost })) c.args.from) (sheet d) (join_done (sheet d) c.args.from c.args.to c.args.cost (omega arith) (omega arith) c.if-cost-gt-DEAREST.false (omega (arith, count_is d, c.if-used-ge-MOST_MOVES.false))) in
    record {
      answer = ap done (sym (degree_is d c.args.from r at)) ∙ e.answer;
      after = join_sheet d c.args.from r at _ c.resized-rows.ensures.front c.args.to c.args.cost _ c.with_move-moves.ensures.front ∙ e.after;
    }
