-- `check` meets its contract: after k turns the sum is that of the first k words. Assumes nothing.
use Prim.Native.Nat.{ℕ, ◌+◌, ◌<◌}
use mathlib.Core.Path.{◌≡◌}
use Rattle.ground.specs.Bytes.{at}
use Rattle.blocks.specs.Checksum.{sum_of, word_of}
use Rattle.blocks.proofs.check.Given as goal

abbrev pub invariant-loop-k : goal.invariant-loop-k
invariant-loop-k l = (l.sum < 65536) × (l.sum ≡ sum_of l.k (word_of (λ (p : ℕ). at l.bytes (l.from + p))))
