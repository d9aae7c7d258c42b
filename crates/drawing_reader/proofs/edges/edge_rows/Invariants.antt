-- `edge_rows` meets its contract: the edges of the first states have been read, and their words stand in their rows. Assumes nothing.
use mathlib.Core.Path.{◌≡◌}
use Rattle.drawing_reader.proofs.EdgeRows.{RowsSoFar}
use Rattle.drawing_reader.proofs.edges.edge_rows.Given as goal

abbrev pub invariant-loop-state : goal.invariant-loop-state
invariant-loop-state l = (l.states ≡ l.shape.states) × RowsSoFar l.shape l.text l.start l.initial.rows l.state l.here l.rows
