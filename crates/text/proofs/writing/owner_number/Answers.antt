use Rattle.std.specs.Option.{option_map}
use Rattle.chart.specs.Players.{numbered}
use Rattle.drawn.specs.Meaning.{sheet}
use Rattle.text.proofs.Absent.{asked, mapped_or}
use Rattle.text.proofs.writing.owner_number.Goals as goal

pub returns : goal.returns
returns c = asked (sheet c.args.chart.now) c.args.vertex (λ v. v.owner) _ (option_map numbered c.owner.result) (mapped_or numbered c.owner.result _ 0 c.map_or.ensures) c.owner.ensures
