-- `sort` meets its contract: what refining finds is too many states, or what `write` is entered with. Assumes nothing.
use borrow.Author.Rules.{rules}
use Rattle.machine.proofs.Stages.{searched_begun, searched_overfull}
use Rattle.machine.proofs.sort.Goals as goal

pub refine-requires : goal.refine-requires
refine-requires c = search (searched_begun, rules)

pub returns-in-None : goal.returns-in-None
returns-in-None c = search (searched_overfull, c.in-None.ensures, rules)
