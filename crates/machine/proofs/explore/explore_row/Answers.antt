use borrow.Author.Rules.{rules}
use Rattle.machine.proofs.Breadth.{rowing_end}
use Rattle.machine.proofs.explore.explore_row.Goals as goal

pub returns : goal.returns
returns c = search (rowing_end, rules)
