-- `put_nodes` meets its contract: after so many states their lines stand there. Assumes nothing.
use Rattle.printing.specs.Putting.{PutOn}
use Rattle.printing.specs.Turns.{in_turn}
use Rattle.drawing.specs.Drawing.{node_line}
use Rattle.drawing.proofs.print.put_nodes.Given as goal

abbrev pub invariant-loop-state : goal.invariant-loop-state
invariant-loop-state l = PutOn l.initial.page l.page (in_turn node_line l.state)
