-- `Table::at_least` meets its contract: nothing of the other exceeds this one. Assumes nothing.
use mathlib.Core.Path.{ap}
use lib.Dec.{eqb}
use Rattle.tables.specs.declared.table.Table.{Table}
use Rattle.tables.specs.Table.{at_least}
use Rattle.tables.proofs.table.Table.at_least.Goals as goal

pub returns : goal.returns
unfolding at_least
returns c = ap (λ (t : Table). eqb t.packed 0) c.exceeding.ensures
