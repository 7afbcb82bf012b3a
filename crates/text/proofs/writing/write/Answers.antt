use Rattle.std.proofs.Common.{◌≡◌, ◌≤◌, true, false, cond, leb, ◌++◌, length, drop, sym, ap, ◌∙◌, arith}
use Rattle.std.proofs.lemmas.Bool.{le-leb, lt-leb}
use Rattle.chart.specs.Refusals.{done, refused}
use Rattle.drawn.specs.Meaning.{sheet}
use Rattle.text.specs.Writing.{text_of}
use Rattle.text.proofs.Putting.{held}
use Rattle.text.proofs.writing.write.Goals as goal

pub returns-then-length-out : goal.returns-then-length-out
returns-then-length-out c =
    let a = sheet c.args.chart.now in
    let out = c.args.out.now in
    let long = (held (text_of a) _ _ c.spell-length.result c.spell-length.ensures).at_end in
    let few : leb (length (text_of a)) (length out) ≡ false = lt-leb (length (text_of a)) (length out) (omega (arith, long, c.if-length-out.true)) in
    record {
      answer = ap (λ b. cond b (done (length (text_of a))) (refused 24 0)) (sym few);
      after = ap (λ b. cond b (text_of a ++ drop (length (text_of a)) out) out) (sym few);
    }

pub returns : goal.returns
returns c =
    let a = sheet c.args.chart.now in
    let out = c.args.out.now in
    let long = (held (text_of a) _ _ c.spell-length.result c.spell-length.ensures).at_end in
    let room : length (text_of a) ≤ length out = omega (arith, long, c.if-length-out.false) in
    let fits : leb (length (text_of a)) (length out) ≡ true = le-leb (length (text_of a)) (length out) room in
    record {
      answer = ap done (held (text_of a) out c.spell.new.out c.spell.result c.spell.ensures).at_end ∙ ap (λ b. cond b (done (length (text_of a))) (refused 24 0)) (sym fits);
      after = (held (text_of a) out c.spell.new.out c.spell.result c.spell.ensures).front room ∙ ap (λ b. cond b (text_of a ++ drop (length (text_of a)) out) out) (sym fits);
    }
