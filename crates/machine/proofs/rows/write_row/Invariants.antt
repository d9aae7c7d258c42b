-- `write_row` meets its contract: the words below the one at hand are written, and all else is as it was. Assumes nothing.
use Rattle.machine.specs.inner.Writing.{state_entry, RowWritten}
use Rattle.machine.proofs.rows.write_row.Given as goal

abbrev pub invariant-loop-a : goal.invariant-loop-a
invariant-loop-a l = RowWritten l.initial.rows l.q (state_entry l.table l.classes l.letters l.i) l.a l.rows
