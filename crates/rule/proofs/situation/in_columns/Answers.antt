-- `in_columns` meets its contract: at each arm the definition computes to the table of that column. Assumes nothing.
use mathlib.Core.Path.{sym, ap, ◌∙◌}
use Rattle.tables.specs.Table.{table, column_table}
use Rattle.rule.specs.Situation.{in_columns}
use Rattle.rule.proofs.situation.in_columns.Goals as goal

pub returns-in-Ld : goal.returns-in-Ld
unfolding in_columns column_table table
returns-in-Ld c = c.column.ensures ∙ ap in_columns (sym c.in-Ld.is)

pub returns-in-Cld : goal.returns-in-Cld
unfolding in_columns column_table table
returns-in-Cld c = c.column-in-Cld.ensures ∙ ap in_columns (sym c.in-Cld.is)

pub returns-in-St : goal.returns-in-St
unfolding in_columns column_table table
returns-in-St c = c.column-in-St.ensures ∙ ap in_columns (sym c.in-St.is)

pub returns-in-Cst : goal.returns-in-Cst
unfolding in_columns column_table table
returns-in-Cst c = c.column-in-Cst.ensures ∙ ap in_columns (sym c.in-Cst.is)
