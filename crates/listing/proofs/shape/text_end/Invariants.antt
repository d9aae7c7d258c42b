-- `text_end` meets its contract: the lines passed belong to the text. Assumes nothing.
use Prim.Native.Nat.{◌-◌, ◌≤◌}
use lib.ListN.{length}
use Rattle.listing.proofs.Lines.{SoFar}
use Rattle.listing.proofs.shape.text_end.Given as goal

abbrev pub invariant-loop-n : goal.invariant-loop-n
invariant-loop-n l = (l.at ≤ length l.text) × SoFar l.text l.at

abbrev pub decreases-loop-n : goal.decreases-loop-n
decreases-loop-n l = length l.text - l.at
