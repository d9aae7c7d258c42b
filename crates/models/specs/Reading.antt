-- What the reader answers, worked out from the left as the reader does. That this is what `Told` says, and nothing else is, is proved in
-- proofs/Words.
use Rattle.std.specs.Prelude.{ℕ, zero, suc, ◌+◌, ◌*◌, cond, List, eqb, ltb, length, get_or, take, drop, Result}
use Rattle.ground.specs.Bytes.{bytes}
use Rattle.answers.specs.declared.Refusal.{Refusal}
use Rattle.tables.specs.declared.table.Table.{Table}
use Rattle.tables.specs.declared.table.Row.{Row}
use Rattle.tables.specs.declared.table.Column.{Column}
use Rattle.tables.specs.Strength.{level_of}
use Rattle.tables.specs.Table.{row_number, column_number, table}
use Rattle.texts.specs.Language.{on_step}
use Rattle.texts.specs.Pattern.{follow_at}
use Rattle.texts.specs.NamePart.{name_run}
use Rattle.models.specs.declared.scan.Line.{Line}
use Rattle.models.specs.declared.model.Name.{Name}
use Rattle.models.specs.Told.{Reading, filled, refusing}
use Rattle.models.specs.declared.reader.Progress.{Progress}
use Rattle.models.specs.inner.Lines.{then_line, head_from, fence_line_from}
use Rattle.models.specs.inner.Progress.{formless, on_line, started, with_fence, finished}

-- the two lines above the fences, which count as one, and a fence's line
unfoldable pub head_at : List ℕ → Result Line ℕ
head_at t = then_line (follow_at (bytes "model ") t 0) λ name. head_from t name

unfoldable pub fence_at : List ℕ → ℕ → Result Line ℕ
fence_at t at = then_line (follow_at (bytes "fence ") t at) λ name. fence_line_from t name

-- the name and the table at the front of what is left of a text
unfoldable pub name_in : List ℕ → Name
name_in s = filled (take (name_run 16 s) s)

unfoldable pub table_in : List ℕ → Table
table_in s = table (λ (r : Row) (c : Column). level_of (get_or s (5 * row_number r + column_number c) 0))

-- the fence on a line that was read, added to what is held
abbrev pub fence_from : List ℕ → Progress → Line → Progress
fence_from t p line = with_fence p (name_in (drop line.name t)) line.name (table_in (drop line.table t))

-- the last line, after which nothing may stand
unfoldable pub ended : List ℕ → Progress → ℕ → Reading
ended t p at =
    on_step formless (follow_at (bytes "end\n") t at) λ past. cond (eqb past (length t)) (finished p) (formless past)

-- at most so many fences, and the last line
unfoldable pub lines_from : ℕ → List ℕ → Progress → ℕ → Reading
lines_from zero t p at = ended t p at
lines_from (suc left) t p at =
    cond (eqb (get_or t at 0) 102)
    (on_line (fence_at t at) λ line. lines_from left t (fence_from t p line) line.next)
    (ended t p at)

-- the fences' lines, after the two above them
abbrev pub after_head : List ℕ → Line → Reading
after_head t line = lines_from 16 t (started (name_in (drop line.name t)) (table_in (drop line.table t))) line.next

unfoldable pub reading : List ℕ → Reading
reading t = cond (ltb 1024 (length t)) (refusing Refusal.OverLimit) (on_line (head_at t) (after_head t))
