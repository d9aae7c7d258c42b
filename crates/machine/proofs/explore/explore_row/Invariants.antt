-- `explore_row` meets its contract: the letters below the one at hand have been answered; each turn answers one more. Assumes nothing.
use Rattle.machine.specs.inner.Sides.{ruled}
use Rattle.machine.proofs.Breadth.{Rowing}
use Rattle.machine.proofs.explore.explore_row.Given as goal

abbrev pub invariant-loop-a : goal.invariant-loop-a
invariant-loop-a l =
    Rowing (ruled l.sides) l.initial.index.count l.index l.table l.i l.a
