use borrow.Author.Rules.{rules}
use Rattle.blocks.proofs.Sums.{sum_end}
use Rattle.blocks.proofs.check.Goals as goal

pub returns : goal.returns
returns c = search (sum_end, rules)
