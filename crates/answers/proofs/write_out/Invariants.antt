-- `write_out` meets its contract: after i turns the first i bytes are copied. Assumes nothing.
use Rattle.std.proofs.Common.{length, take, drop, ◌≡◌, ◌≤◌, ◌++◌}
use Rattle.answers.proofs.write_out.Given as goal

abbrev pub invariant-loop-i : goal.invariant-loop-i
invariant-loop-i l =
    (length l.text ≤ length l.initial.out) × (length l.out ≡ length l.initial.out) × (l.out ≡ take l.i l.text ++ drop l.i l.initial.out)
