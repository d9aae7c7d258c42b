-- `write_rows` meets its contract: the classes below q have their rows, read off their first situations, all of which are passed. Assumes nothing.
use Rattle.ground.specs.Bytes.{at}
use Rattle.mealy.specs.inner.Classes.{Numbering}
use Rattle.machine.specs.inner.Writing.{state_entry}
use Rattle.machine.proofs.Firsts.{Writing}
use Rattle.machine.proofs.rows.write_rows.Given as goal

abbrev pub invariant-loop-i : goal.invariant-loop-i
invariant-loop-i l =
    (x : Numbering l.k (at l.classes) l.n) → Writing x (state_entry l.table l.classes l.letters) l.initial.rows l.rows l.q l.i
