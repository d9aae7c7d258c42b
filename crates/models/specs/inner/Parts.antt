-- The form of a model's text, put together from the parts that the reader follows. That it is 01's form is proved in proofs/Grammar.
use Rattle.std.specs.Prelude.{ℕ, zero, suc}
use Rattle.ground.specs.Bytes.{bytes}
use Rattle.texts.specs.Language.{Language, Seq, Or}
use Rattle.texts.specs.Pattern.{Follows}
use Rattle.texts.specs.NamePart.{Ended}
use Rattle.models.specs.inner.Lines.{table_pattern}

-- the table's part of a line, with the line feed, and what comes after it
abbrev pub TablePart : Language
TablePart = Follows table_pattern

abbrev pub TableThen : Language → Language
TableThen M = Seq TablePart M

-- a fence's line, and from its name on
abbrev pub FenceName : Language → Language
FenceName M = Seq (Ended 32) (TableThen M)

abbrev pub FenceThen : Language → Language
FenceThen M = Seq (Follows (bytes "fence ")) (FenceName M)

abbrev pub EndLine : Language
EndLine = Follows (bytes "end\n")

-- at most so many fences, and the last line
abbrev pub Lines : ℕ → Language
Lines zero = EndLine
Lines (suc n) = Or (FenceThen (Lines n)) EndLine

-- the whole text, from its second line on and from its name on
abbrev pub PpoForm : Language
PpoForm = Seq (Follows (bytes "ppo ")) (TableThen (Lines 16))

abbrev pub NameForm : Language
NameForm = Seq (Ended 10) PpoForm

abbrev pub TextForm : Language
TextForm = Seq (Follows (bytes "model ")) NameForm
