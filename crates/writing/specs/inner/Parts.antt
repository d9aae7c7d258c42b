-- The part of a model's text that a table ends: the two lines above the fences, or the line of a fence.
use Rattle.std.specs.Prelude.{ℕ, List, ◌++◌}
use Rattle.tables.specs.declared.table.Table.{Table}
use Rattle.printing.specs.Name.{unfilled}
use Rattle.models.specs.declared.model.Name.{Name}
use Rattle.models.specs.Text.{table_part}

-- a keyword, a name, a separator and a table
abbrev pub line_part : List ℕ → Name → List ℕ → Table → List ℕ
line_part keyword name separator table = keyword ++ (unfilled name.bytes ++ (separator ++ table_part table))
