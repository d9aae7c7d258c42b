-- `edge_row` meets its contract: the edges of the first letters have been read, and their words stand in the row. Assumes nothing.
use Rattle.drawing_reader.proofs.EdgeRows.{RowSoFar}
use Rattle.drawing_reader.proofs.edges.edge_row.Given as goal

abbrev pub invariant-loop-letter : goal.invariant-loop-letter
invariant-loop-letter l = RowSoFar l.shape l.state l.text l.start l.initial.rows l.letter l.here l.rows
