-- `put_decimal` meets its contract: the digits that are made stand behind those still to be made. Assumes nothing.
use Rattle.printing.proofs.Decimals.{LastDigits}
use Rattle.printing.proofs.Page.put_decimal.Given as goal

abbrev pub invariant-loop-left : goal.invariant-loop-left
invariant-loop-left l = LastDigits l.number l.left l.first l.digits

abbrev pub decreases-loop-left : goal.decreases-loop-left
decreases-loop-left l = l.left
