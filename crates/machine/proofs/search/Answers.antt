-- `search` meets its contract: what exploring finds is too many situations, or what `sort` is entered with. Assumes nothing.
use borrow.Author.Rules.{rules}
use Rattle.machine.specs.Generated.{crowded}
use Rattle.machine.proofs.search.Goals as goal

pub returns-in-None : goal.returns-in-None
returns-in-None c = search (crowded, rules)
