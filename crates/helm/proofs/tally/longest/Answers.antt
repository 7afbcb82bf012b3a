use Rattle.std.proofs.Common.{rules, ◌≡◌, ◌-◌, max, ◌∙◌}
use Rattle.std.specs.List.{fold}
use Rattle.helm.proofs.Entries.{longest_by_fold}
use Rattle.helm.proofs.tally.longest.Goals as goal

pub returns : goal.returns
returns c =
    let e : c.fold.result ≡ fold (λ b x. max b (x - 1)) 0 c.args.waits.now = search rules in
    e ∙ longest_by_fold c.args.waits.now
