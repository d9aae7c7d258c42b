-- The lines of a model's text, followed from the left.
use Rattle.std.specs.Prelude.{ℕ, ◌+◌, ◌-◌, ◌≤◌, ◌≡◌, List, length, drop, Result, Ok, Err}
use Rattle.ground.specs.Bytes.{bytes}
use Rattle.texts.specs.Step.{Step}
use Rattle.texts.specs.Language.{on_step}
use Rattle.texts.specs.Pattern.{follow_at}
use Rattle.texts.specs.NamePart.{name_run, name_at}
use Rattle.models.specs.declared.scan.Line.{Line}

-- the table's part of a line
abbrev pub table_pattern : List ℕ
table_pattern = bytes "???? ???? ???? ????\n"

-- a line goes on at the next place, or the text departs from it there
abbrev pub then_line : Step → (ℕ → Result Line ℕ) → Result Line ℕ
then_line step more = on_step Err step more

-- the places of a line's name, of its table and of the next line
abbrev pub line_end : List ℕ → ℕ → ℕ → Result Line ℕ
line_end t name table = then_line (follow_at table_pattern t table) λ next. Ok (record { name = name; table = table; next = next })

abbrev pub ppo_at : List ℕ → ℕ → ℕ → Result Line ℕ
ppo_at t name past = then_line (follow_at (bytes "ppo ") t past) λ table. line_end t name table

-- the same from the name on, of the two lines above the fences, which count as one, and of a fence's line
abbrev pub head_from : List ℕ → ℕ → Result Line ℕ
head_from t name = then_line (name_at 10 t name) λ past. ppo_at t name past

abbrev pub fence_line_from : List ℕ → ℕ → Result Line ℕ
fence_line_from t name = then_line (name_at 32 t name) λ table. line_end t name table

-- where a name ends of which a line was read: so many bytes before its table
pub record NameEnds (t : List ℕ) (gap : ℕ) (line : Line) : Type 0 where
  pub above : gap ≤ line.table
  pub run : line.name + name_run 16 (drop line.name t) ≡ line.table - gap
  pub within : line.table - gap ≤ length t
