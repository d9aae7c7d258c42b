-- `put_state` meets its contract: after so many letters their edges stand there. Assumes nothing.
use Prim.Native.Nat.{ℕ}
use mathlib.Core.List.{List}
use Rattle.printing.specs.Putting.{PutOn}
use Rattle.printing.specs.Turns.{in_turn}
use Rattle.image.specs.Image.{word}
use Rattle.drawing.specs.Drawing.{edge_line}
use Rattle.drawing.proofs.print.put_state.Given as goal

-- the edge of each letter
abbrev pub edges : List ℕ → ℕ → ℕ → List ℕ
edges rows state letter = edge_line state letter (word rows state letter)

abbrev pub invariant-loop-letter : goal.invariant-loop-letter
invariant-loop-letter l =
    PutOn l.initial.page l.page (in_turn (edges l.rows l.state) l.letter)
