use Rattle.std.proofs.Common.{◌≡◌, ◌+◌, [], drop, arith, length-drop}
use Rattle.std.proofs.Math.ListN.{drop_of_length-le}
use Rattle.text.proofs.Putting.{puts_more, puts_none, put_numbers}
use Rattle.text.proofs.writing.Page.line.Goals as goal

pub loop-place-init : goal.loop-place-init
loop-place-init c = λ end a. puts_more _ _ _ _ end c.put.ensures a

pub loop-place-preserved : goal.loop-place-preserved
loop-place-preserved c =
    λ end a. c.loop-place.invariant end
    (put_numbers c.args.numbers.now c.loop-place.place _ _ _ _ end c.loop-place-test.true
    (c.end_behind.ensures.is (drop (c.loop-place.place + 1) c.args.numbers.now) (omega (arith, length-drop (c.loop-place.place + 1) c.args.numbers.now)))
    c.number.ensures c.put-in-loop-place.ensures a)

pub returns : goal.returns
returns c =
    let none : drop c.loop-place.place c.args.numbers.now ≡ [] = drop_of_length-le c.args.numbers.now (omega arith) in
    c.loop-place.invariant _ (rw none (puts_none c.loop-place.self))
