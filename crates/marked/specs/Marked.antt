-- Document 01, "Streams to try": the rows marked * as one table. "Either" is both ways, and so is the row that names none.
use Rattle.std.specs.Prelude.{ℕ, List, [], ◌∷◌}
use Prim.Native.String.{String}
use Rattle.ground.specs.Bytes.{bytes}
use Rattle.answers.specs.declared.Refusal.{Refusal}
use Rattle.answers.specs.Given.{Given, refuses}
use Rattle.models.specs.Model.{Description}
use Rattle.built_ins.specs.BuiltIns.{built_in, model, none}
use Rattle.models.specs.Text.{text_of}
use Rattle.runs.specs.Bytes.{puts}
use Rattle.runs.specs.Call.{outcome}

-- a row: the two models, the way, the stream, and what the document says that is given
pub record Entry : Type 0 where
  pub upstream : Description
  pub target : Description
  pub way : ℕ
  pub stream : String
  pub gives : Given

-- a stream that is put out so
abbrev entry : Description → Description → ℕ → String → String → Entry
entry u t way stream out = record { upstream = u; target = t; way = way; stream = stream; gives = puts (bytes out) }

-- a target of `-` with no fence
abbrev pub bare : Description
bare = model "BARE" none []

unfoldable pub marked : List Entry
marked =
    entry (built_in 1) (built_in 15) 0 "" ""
    ∷ entry (built_in 1) (built_in 15) 1 "" ""
    ∷ entry (built_in 1) (built_in 15) 0 "ss" "s0s"
    ∷ entry (built_in 1) (built_in 15) 1 "ss" "s0s"
    ∷ entry (built_in 1) (built_in 15) 0 "sl" "sl"
    ∷ entry (built_in 1) (built_in 15) 1 "sl" "sl"
    ∷ entry (built_in 1) (built_in 15) 0 "s0l" "s0l"
    ∷ entry (built_in 1) (built_in 15) 1 "s0l" "s0l"
    ∷ entry (built_in 1) (built_in 15) 0 "0l" "l"
    ∷ entry (built_in 1) (built_in 15) 1 "0l" "l"
    ∷ entry (built_in 1) (built_in 15) 0 "ssl0l" "s0sl0l"
    ∷ entry (built_in 1) (built_in 15) 1 "ssl0l" "s0sl0l"
    ∷ entry (built_in 1) (built_in 14) 0 "ss" "s1s"
    ∷ entry (built_in 7) (built_in 14) 0 "s0l" "sl"
    ∷ entry (built_in 7) (built_in 14) 0 "s0s1s" "s0s1s"
    ∷ entry (built_in 7) (built_in 14) 0 "sl0l1s" "sl0l1s"
    ∷ entry (built_in 1) (built_in 13) 0 "ll" "l1l"
    ∷ entry (built_in 1) (built_in 13) 0 "sls" "sl0s"
    ∷ entry (built_in 0) bare 0 "l" "l"
    ∷ entry (built_in 0) bare 1 "l" "l"
    ∷ record { upstream = built_in 0; target = bare; way = 0; stream = "ll"; gives = refuses (Refusal.NoFenceWillDo 1) }
    ∷ record { upstream = built_in 0; target = bare; way = 1; stream = "ll"; gives = refuses (Refusal.NoFenceWillDo 1) }
    ∷ []

-- what the call gives on an entry
abbrev pub given : Entry → Given
given e = outcome e.way (text_of e.upstream) (text_of e.target) (bytes e.stream)
