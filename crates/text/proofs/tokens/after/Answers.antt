use Rattle.std.proofs.Common.{rules}
use Rattle.std.proofs.lemmas.Bool.Decides.{Decides-eqb}
use Rattle.std.proofs.lemmas.Slice.Eq.{strip_prefix_is}
use Rattle.text.proofs.tokens.after.Goals as goal

pub returns : goal.returns
returns c = search (rules, strip_prefix_is Decides-eqb)
