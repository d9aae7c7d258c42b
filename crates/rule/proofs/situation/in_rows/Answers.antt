-- `in_rows_lem` meets its contract: at each arm the definition computes to the table of that row. Assumes nothing.
use mathlib.Core.Path.{sym, ap, ◌∙◌}
use Rattle.tables.specs.Table.{table, row_table}
use Rattle.rule.specs.Situation.{in_rows}
use Rattle.rule.proofs.situation.in_rows.Goals as goal

pub returns-in-Ld : goal.returns-in-Ld
unfolding in_rows row_table table
returns-in-Ld c = c.row.ensures ∙ ap in_rows (sym c.in-Ld.is)

pub returns-in-Cld : goal.returns-in-Cld
unfolding in_rows row_table table
returns-in-Cld c = c.row-in-Cld.ensures ∙ ap in_rows (sym c.in-Cld.is)

pub returns-in-St : goal.returns-in-St
unfolding in_rows row_table table
returns-in-St c = c.row-in-St.ensures ∙ ap in_rows (sym c.in-St.is)

pub returns-in-Cst : goal.returns-in-Cst
unfolding in_rows row_table table
returns-in-Cst c = c.row-in-Cst.ensures ∙ ap in_rows (sym c.in-Cst.is)
