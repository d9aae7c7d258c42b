-- `repeat` meets its contract: each byte so far is that of the piece. Assumes nothing.
use Rattle.std.proofs.Common.{◌≡◌, length}
use Rattle.cases.specs.Buffer.{Repeats}
use Rattle.cases.proofs.repeat.Given as goal

abbrev pub invariant-loop-i : goal.invariant-loop-i
invariant-loop-i l = (length l.out ≡ length l.initial.out) × Repeats l.piece l.out l.i
