-- `explore_all` meets its contract: the situations found, with their rows so far, are what the loop keeps; each turn gives one row more, and there
-- is room for 4,096. Assumes nothing.
use Prim.Native.Nat.{◌-◌}
use Rattle.machine.specs.inner.Index.{capacity}
use Rattle.machine.specs.inner.Sides.{ruled}
use Rattle.machine.specs.inner.Explore.{Explored}
use Rattle.machine.proofs.explore.explore_all.Given as goal

abbrev pub invariant-loop-i : goal.invariant-loop-i
invariant-loop-i l =
    Explored (ruled l.sides) l.index l.table l.i 0

abbrev pub decreases-loop-i : goal.decreases-loop-i
decreases-loop-i l =
    capacity - l.i
