-- A stream as bytes. Document 01: "4: a byte is no operation", "5: the upstream model has no such fence", "6: no fence will do for the way",
-- each at its index, and "the earliest of 4, 5, 6 in the stream". "Success returns .. fences inserted".
-- Up to the first byte at fault by 4 or 5 a stream is operations, and these are run by the rule: a refusal there, 6, is earlier.
use Rattle.std.specs.Prelude.{ℕ, suc, ◌+◌, cond, List, [], ◌∷◌, map, ltb, length, Option, Some, None}
use Rattle.answers.specs.declared.Refusal.{Refusal}
use Rattle.answers.specs.Given.{Given, gives, refuses}
use Rattle.operations.specs.declared.Operation.{Operation}
use Rattle.operations.specs.Operation.{byte_is, byte_of, fence_bytes}
use Rattle.rule.specs.declared.way.Way.{Way}
use Rattle.rule.specs.Stream.{Stream}
use Rattle.rule.specs.Pairs.{Model}
use Rattle.rule.specs.Rule.{Ran, done, refused, run}

-- what a byte at an index of the input is, under an upstream model of n fences: an operation, or at fault
pub data Judged : Type 0 where
  good : Operation → Judged
  bad : Refusal → Judged

abbrev pub judged_as : ℕ → ℕ → Option Operation → Judged
judged_as n at None = bad (Refusal.NoOperation at)
judged_as n at (Some (Operation.Access k)) = good (Operation.Access k)
judged_as n at (Some (Operation.Fence f)) = cond (ltb f n) (good (Operation.Fence f)) (bad (Refusal.NoSuchFence at))

abbrev pub judged : ℕ → ℕ → ℕ → Judged
judged n at b = judged_as n at (byte_is b)

-- the operations up to the first byte at fault, and that fault if there is one
abbrev pub operations_from : Judged → Stream → Stream
operations_from (good op) rest = op ∷ rest
operations_from (bad why) rest = []

unfoldable pub operations : ℕ → ℕ → List ℕ → Stream
operations n at [] = []
operations n at (b ∷ bytes) = operations_from (judged n at b) (operations n (suc at) bytes)

abbrev pub fault_from : Judged → Option Refusal → Option Refusal
fault_from (good op) rest = rest
fault_from (bad why) rest = Some why

unfoldable pub fault : ℕ → ℕ → List ℕ → Option Refusal
fault n at [] = None
fault n at (b ∷ bytes) = fault_from (judged n at b) (fault n (suc at) bytes)

-- what a direct run gives that puts these bytes out: their fences are counted, and there is no end state to tell
abbrev pub puts : List ℕ → Given
puts bytes = gives bytes (fence_bytes bytes) 0

-- a run of operations that began at an index of the input, with the fault that ended them
abbrev pub outcome_of : ℕ → Ran → Option Refusal → Given
outcome_of at (refused i) f = refuses (Refusal.NoFenceWillDo (at + i))
outcome_of at (done out) None = puts (map byte_of out)
outcome_of at (done out) (Some why) = refuses why

-- the direct run of a stream of bytes, by the rule
unfoldable pub direct : Way → Model → Model → List ℕ → Given
direct way up target bytes =
    outcome_of 0 (run way up target (operations (length up.fences) 0 bytes)) (fault (length up.fences) 0 bytes)
