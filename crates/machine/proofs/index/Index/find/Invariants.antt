-- `find` meets its contract: the pair stands at no place above the cursor, whose links fall. Assumes nothing.
use Rattle.machine.proofs.Finding.{Seeking}
use Rattle.machine.proofs.index.Index.find.Given as goal

abbrev pub invariant-loop-cursor : goal.invariant-loop-cursor
invariant-loop-cursor l = Seeking l.self l.need l.low l.cursor

abbrev pub decreases-loop-cursor : goal.decreases-loop-cursor
decreases-loop-cursor l = l.cursor
