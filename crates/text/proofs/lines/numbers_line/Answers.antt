use Rattle.std.proofs.Common.{rules, ◌+◌, [], ◌∷◌, refl, arith, length-drop}
use Rattle.std.proofs.lemmas.List.{length-replicate}
use Rattle.text.proofs.Fields.{spells_word, word_spells, spells_more, spells_behind, spells_at, spells_set, spells_all}
use Rattle.text.proofs.lines.numbers_line.Goals as goal

pub loop-place-init : goal.loop-place-init
loop-place-init g c = record {
  long = length-replicate g.row.N 0;
  back = λ ns after is s. spells_word _ _ _ _ _ c.in_ok-rest.ensures s;
  on = λ ms after is s. word_spells _ _ _ _ _ c.in_ok-rest.ensures s;
}

pub returns-in_err-number : goal.returns-in_err-number
returns-in_err-number g c =
    rw c.from_residual-in_err-number.ensures (λ ns after is s.
    c.in_err-number.ensures _ _ (spells_at c.loop-place.rest.now c.end_behind.result c.loop-place.place ns after (omega arith) (c.end_behind.ensures.is _ (omega (arith, length-drop (c.loop-place.place + 1) ns)))
    (c.loop-place.invariant.back ns after is s)))

pub loop-place-preserved : goal.loop-place-preserved
loop-place-preserved g c = record {
  long = search rules;
  back = λ ns after is s.
      spells_behind c.loop-place.rest.now _ _ c.loop-place.place _ ns after c.end_behind.ensures.plain (omega arith) (c.end_behind.ensures.is _ (omega (arith, length-drop (c.loop-place.place + 1) ns))) c.in_ok-number.ensures
      (c.loop-place.invariant.back ns after is s);
  on = λ ms after is s.
      spells_set _ _ c.loop-place.number-items c.loop-place.place c.in_ok-number.field-0-0 ms after (omega arith)
      (c.loop-place.invariant.on (c.in_ok-number.field-0-0 ∷ ms) after (omega arith) (spells_more c.loop-place.rest.now c.end_behind.result _ _ ms after (c.end_behind.ensures.is ms (omega arith)) c.in_ok-number.ensures s));
}

pub returns : goal.returns
returns g c = spells_all _ _ _ c.loop-place.place _ (omega arith) (c.loop-place.invariant.on [] _ (omega arith) (record { small = tt; is = refl }))
