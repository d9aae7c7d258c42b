-- `Table::exceeding` meets its contract: where the first does not exceed the second, 0 is picked. Assumes nothing.
use mathlib.Core.Path.{◌∙◌}
use Rattle.tables.proofs.Laws.{picked_exceeding}
use Rattle.tables.proofs.table.Table.exceeding.Goals as goal

pub returns : goal.returns
returns c = c.pick_where.ensures ∙ picked_exceeding c.args.self c.args.other
