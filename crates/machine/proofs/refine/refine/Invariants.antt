-- `refine` meets its contract: the classes are a numbering that parts no same states; a round that leaves their count as it was leaves one state
-- to each class. Assumes nothing.
use Prim.Native.Nat.{◌-◌}
use Rattle.machine.proofs.Rounds.{Refining}
use Rattle.machine.proofs.refine.refine.Given as goal

abbrev pub invariant-loop-more : goal.invariant-loop-more
invariant-loop-more l =
    Refining l.letters l.table l.k l.classes l.finer l.count

abbrev pub decreases-loop-more : goal.decreases-loop-more
decreases-loop-more l = 256 - l.count
