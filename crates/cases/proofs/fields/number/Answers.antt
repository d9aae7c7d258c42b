-- `number` meets its contract: the chain takes each digit in turn. Assumes nothing.
use Rattle.std.proofs.Common.{rules, ◌≡◌, ◌∙◌}
use Rattle.std.specs.List.{fold}
use Rattle.std.proofs.iter.runs.Made.{chains}
use Rattle.cases.specs.Fields.{with_digit}
use Rattle.cases.proofs.Bars.{number_fold}
use Rattle.cases.proofs.fields.number.Goals as goal

pub returns : goal.returns
returns c =
    let l = c.args.text.now in
    let all : c.fold.result ≡ fold with_digit 0 l = search (rules, chains) in
    all ∙ number_fold 0 l
