-- `Table::lower` meets its contract: where the first exceeds the second the second is the lower, elsewhere the first is. Assumes nothing.
use mathlib.Core.Path.{◌∙◌}
use Rattle.tables.proofs.Laws.{picked_lower}
use Rattle.tables.proofs.table.Table.lower.Goals as goal

pub returns : goal.returns
returns c = c.pick_where.ensures ∙ picked_lower c.args.self c.args.other
