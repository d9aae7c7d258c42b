-- `generate` meets its contract: the fences that an operation can name are sixteen at most, and a table of zeros is unused. Assumes nothing.
use borrow.Author.Rules.{rules}
use Rattle.machine.proofs.Stages.{few_named, new_table}
use Rattle.machine.proofs.generate.Goals as goal

pub search-requires : goal.search-requires
search-requires c = search (few_named, new_table, rules)
