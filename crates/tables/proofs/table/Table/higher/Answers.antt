-- `Table::higher` meets its contract: where the first exceeds the second it is the higher, elsewhere the second is. Assumes nothing.
use mathlib.Core.Path.{◌∙◌}
use Rattle.tables.proofs.Laws.{picked_higher}
use Rattle.tables.proofs.table.Table.higher.Goals as goal

pub returns : goal.returns
returns c = c.pick_where.ensures ∙ picked_higher c.args.self c.args.other
