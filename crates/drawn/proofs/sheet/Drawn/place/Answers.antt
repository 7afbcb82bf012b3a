use Rattle.std.proofs.Common.{[], sym, ap, ◌∙◌, arith, length-set}
use Rattle.chart.specs.Refusals.{done}
use Rattle.drawn.specs.Rules.{with_vertex}
use Rattle.drawn.specs.Meaning.{moves, sheet}
use Rattle.drawn.proofs.Ranges.{more_vertices}
use Rattle.drawn.specs.Readings.{owner_low, size_is}
use Rattle.drawn.proofs.Outcomes.{place_full, place_done, settled}
use Rattle.drawn.proofs.Placing.{place_ordered, place_tinted, place_sheet}
use Rattle.drawn.proofs.sheet.Drawn.place.Goals as goal

pub returns-then-number-ge-MOST_VERTICES : goal.returns-then-number-ge-MOST_VERTICES
returns-then-number-ge-MOST_VERTICES c =
    let d = c.args.self.now in
    let known = owner_low c.in_ok-player.player in
    let is = c.in_ok-player.ensures in
    settled _ _ (with_vertex (sheet d) (record { owner = c.args.owner; colour = c.args.colour; moves = [] })) (sheet d) (place_full (sheet d) c.args.owner c.args.colour (omega arith) c.if-colour-gt-HIGHEST_COLOUR.false (omega (arith, size_is d, c.if-number-ge-MOST_VERTICES.true)))

pub invariant_of-self : goal.invariant_of-self
invariant_of-self c =
    let d = c.args.self.now in
    let room = c.if-number-ge-MOST_VERTICES.false in
    record {
      wide = simp length-set d.wide;
      long = d.long;
      room = omega arith;
      few = d.few;
      ordered = place_ordered d _ c.args.colour room;
      tinted = place_tinted d _ c.args.colour room c.if-colour-gt-HIGHEST_COLOUR.false;
      ranged = more_vertices d.count (moves d) d.ranged;
    }

pub returns : goal.returns
returns c =
    let d = c.args.self.now in
    let known = owner_low c.in_ok-player.player in
    let is = c.in_ok-player.ensures in
    let room = c.if-number-ge-MOST_VERTICES.false in
    let e = settled _ _ (with_vertex (sheet d) (record { owner = c.args.owner; colour = c.args.colour; moves = [] })) (sheet d) (place_done (sheet d) c.args.owner c.args.colour (omega arith) c.if-colour-gt-HIGHEST_COLOUR.false (omega (arith, size_is d))) in
    record {
      answer = ap done (sym (size_is d)) ∙ e.answer;
      after = place_sheet d c.in_ok-player.player c.args.colour room c.args.owner c.in_ok-player.ensures ∙ e.after;
    }
