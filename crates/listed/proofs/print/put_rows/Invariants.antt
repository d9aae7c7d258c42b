-- `put_rows` meets its contract: after so many states their lines stand there. Assumes nothing.
use Prim.Native.Nat.{ℕ}
use mathlib.Core.List.{List}
use Rattle.printing.specs.Putting.{PutOn}
use Rattle.machine.specs.Rows.{answer_at}
use Rattle.listed.specs.Printed.{state_lines, row_lines}
use Rattle.listed.proofs.print.put_rows.Given as goal

-- the lines of each state
abbrev pub states : List ℕ → ℕ → ℕ → List ℕ
states rows letters state = state_lines state (answer_at rows state) letters

abbrev pub invariant-loop-state : goal.invariant-loop-state
invariant-loop-state l =
    PutOn l.initial.page l.page (row_lines (answer_at l.rows) l.letters l.state)
