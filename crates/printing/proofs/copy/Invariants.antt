-- `copy` meets its contract: after i turns the first i bytes of the text are copied. Assumes nothing.
use Rattle.std.proofs.Common.{◌≡◌, length}
use lib.Seq.{paste}
use Rattle.printing.proofs.copy.Given as goal

abbrev pub invariant-loop-i : goal.invariant-loop-i
invariant-loop-i l = (length l.bytes ≡ length l.text) × (l.bytes ≡ paste l.initial.bytes 0 l.text l.i)
