-- `put_edges` meets its contract: after so many states their edges stand there. Assumes nothing.
use Rattle.printing.specs.Putting.{PutOn}
use Rattle.printing.specs.Turns.{in_turn}
use Rattle.drawing.specs.Drawing.{state_edges}
use Rattle.drawing.proofs.print.put_edges.Given as goal

abbrev pub invariant-loop-state : goal.invariant-loop-state
invariant-loop-state l =
    PutOn l.initial.page l.page (in_turn (state_edges l.letters l.rows) l.state)
