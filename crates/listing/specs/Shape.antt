-- The shape of an input. Document 01: "The program `shimlist` reads two model texts, then a line `way full` or `way sparing`, then `run ` and a
-- stream". "In the input a model text runs through the first line that is exactly `end`, and the `way` and `run` lines each end in a line feed
-- with nothing after."
use Rattle.std.specs.Prelude.{ℕ, ◌-◌, Bool, ◌&&◌, cond, List, [], ◌∷◌, ◌++◌, eqb, leb, length, get_or, take, drop, Option, Some, None}
use Rattle.ground.specs.Bytes.{bytes, same_bytes}
use Rattle.rule.specs.declared.way.Way.{Way}
use Rattle.listed.specs.Parts.{Parts}

-- the lines of a text, each with its line feed; the last may lack it
abbrev pub prefixed : ℕ → List (List ℕ) → List (List ℕ)
prefixed b [] = (b ∷ []) ∷ []
prefixed b (x ∷ xs) = (b ∷ x) ∷ xs

unfoldable pub lines : List ℕ → List (List ℕ)
lines [] = []
lines (b ∷ l) = cond (eqb b 10) ((b ∷ []) ∷ lines l) (prefixed b (lines l))

-- a text, and the lines after it
pub record Cut : Type 0 where
  pub text : List ℕ
  pub rest : List (List ℕ)

abbrev pub joined : List ℕ → Option Cut → Option Cut
joined x None = None
joined x (Some c) = Some (record { text = x ++ c.text; rest = c.rest })

-- the text through the first line that is exactly `end`
unfoldable pub through : List (List ℕ) → Option Cut
through [] = None
through (x ∷ xs) = cond (same_bytes x (bytes "end\n")) (Some (record { text = x; rest = xs })) (joined x (through xs))

abbrev pub way_in : List ℕ → Option Way
way_in x =
    cond (same_bytes x (bytes "way full\n")) (Some Way.Full)
    (cond (same_bytes x (bytes "way sparing\n")) (Some Way.Sparing) None)

-- `run `, a stream and a line feed
abbrev pub is_run : List ℕ → Bool
is_run x = leb 5 (length x) && (same_bytes (take 4 x) (bytes "run ") && eqb (get_or x (length x - 1) 0) 10)

abbrev pub stream_of : List ℕ → List ℕ
stream_of x = take (length x - 5) (drop 4 x)

-- what stands after the two texts: exactly a way's line and a run's
pub record Ending : Type 0 where
  pub way : Way
  pub stream : List ℕ

abbrev pub ending_from : Option Way → List ℕ → Option Ending
ending_from (Some way) r = cond (is_run r) (Some (record { way = way; stream = stream_of r })) None
ending_from None r = None

abbrev pub ending_of : List (List ℕ) → Option Ending
ending_of [] = None
ending_of (w ∷ []) = None
ending_of (w ∷ r ∷ []) = ending_from (way_in w) r
ending_of (w ∷ r ∷ x ∷ xs) = None

-- the parts of an input of the shape
abbrev pub with_ending : List ℕ → List ℕ → Option Ending → Option Parts
with_ending upstream target None = None
with_ending upstream target (Some e) = Some (record { upstream = upstream; target = target; way = e.way; stream = e.stream })

abbrev pub with_target : List ℕ → Option Cut → Option Parts
with_target upstream None = None
with_target upstream (Some c) = with_ending upstream c.text (ending_of c.rest)

abbrev pub with_upstream : Option Cut → Option Parts
with_upstream None = None
with_upstream (Some c) = with_target c.text (through c.rest)

abbrev pub shape : List ℕ → Option Parts
shape input = with_upstream (through (lines input))
