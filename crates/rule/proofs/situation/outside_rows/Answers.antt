-- `outside_rows` meets its contract: S everywhere exceeds the table of the rows outside them. Assumes nothing.
use mathlib.Core.Path.{◌≡◌, refl, ap, ◌∙◌}
use Rattle.tables.specs.declared.table.Table.{Table}
use Rattle.tables.specs.Table.{table, merged_table, exceeding}
use Rattle.operations.specs.declared.Kind.{Kind}
use Rattle.rule.specs.Situation.{in_rows, outside_rows}
use Rattle.rule.proofs.situation.outside_rows.Goals as goal

abbrev full : Table
full = record { packed = 0xffff_ffff }

rest : (k : Kind) → exceeding full (in_rows k) ≡ outside_rows k
unfolding in_rows outside_rows table merged_table
rest Kind.Ld = refl
rest Kind.Cld = refl
rest Kind.St = refl
rest Kind.Cst = refl

pub returns : goal.returns
returns c = c.exceeding.ensures ∙ ap (exceeding full) c.in_rows.ensures ∙ rest c.args.kind
