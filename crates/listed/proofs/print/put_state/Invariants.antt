-- `put_state` meets its contract: after so many letters their lines stand there. Assumes nothing.
use Rattle.printing.specs.Putting.{PutOn}
use Rattle.machine.specs.Rows.{answer_at}
use Rattle.listed.specs.Printed.{state_lines}
use Rattle.listed.proofs.print.put_state.Given as goal

abbrev pub invariant-loop-letter : goal.invariant-loop-letter
invariant-loop-letter l =
    PutOn l.initial.page l.page (state_lines l.state (answer_at l.rows l.state) l.letter)
