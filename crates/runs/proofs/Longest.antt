-- What a direct run has done that gives bytes (`Done`), and what it puts out at most: for each operation an access with a fence before it, and no
-- fence before the first access, since no pair ends there. Assumes nothing.
use Rattle.std.proofs.Common.{Option, Some, None}
use Prim.Native.Nat.{ℕ, suc, ◌-◌, ◌*◌, ◌<◌, ◌≤◌}
use mathlib.Core.Path.{◌≡◌, refl, sym, ap, ◌∙◌}
use mathlib.Core.Bool.{false}
use mathlib.Core.List.{List, [], ◌∷◌, ◌++◌, map}
use native.Mathlib.Omega.{arith}
use lib.ListN.{length, length-append, length-map}
use Rattle.ground.proofs.Truths.{differ, true_false}
use Rattle.answers.specs.declared.Refusal.{Refusal}
use Rattle.answers.specs.Given.{gives}
use Rattle.operations.specs.declared.Kind.{Kind}
use Rattle.operations.specs.declared.Operation.{Operation}
use Rattle.operations.specs.Operation.{byte_is, byte_of, is_fence, fence_bytes}
use Rattle.operations.proofs.Bytes.{access_read}
use Rattle.rule.specs.declared.way.Way.{Way}
use Rattle.rule.specs.Pairs.{Model, settled}
use Rattle.rule.specs.Rule.{Ran, done, refused, run}
use Rattle.rule.specs.Stream.{Stream, access, fence, fences}
use Rattle.rule.proofs.Choices.{rule_fence}
use Rattle.rule.proofs.Streams.{fences-append}
use Rattle.rule.proofs.Reach.{Reach, fresh, passed, plain, fenced, run_reach}
use Rattle.runs.specs.Bytes.{Judged, good, bad, judged, operations, operations_from, fault, outcome_of, direct}

module _ (way : Way) (up target : Model) where
  -- before the first operation no pair is short
  not_short : (input output : Stream) (k : Kind) → settled up target input output k ≡ false → 0 < length input
  unfolding settled
  not_short [] output k e = true_false e
  not_short (op ∷ input) output k e = omega arith

  few : {input output : Stream} → Reach way up target input output
      → (length output ≤ 2 * length input - 1) × (fences output ≤ length input - 1)
  few fresh = (omega arith, omega arith)
  few (passed {input = i} h n) =
      let b = few h in
      (omega (arith, b.0, length-append i (fence n)), omega (arith, b.1, length-append i (fence n)))
  few (plain {input = i} {output = o} h k e) =
      let b = few h in (
        omega (arith, b.0, length-append i (access k), length-append o (access k)),
        omega (arith, b.1, length-append i (access k), fences-append o (access k)),
      )
  few (fenced {input = i} {output = o} h k g e) =
      let b = few h in
      let some-before = not_short i o k (rule_fence way up target i o k g e).0 in (
        omega (arith, b.0, some-before, length-append i (access k), length-append (o ++ fence g) (access k), length-append o (fence g)),
        omega (arith, b.1, some-before, length-append i (access k), fences-append (o ++ fence g) (access k), fences-append o (fence g)),
      )

-- a stream has at most as many operations as bytes
few_operations : (n at : ℕ) (stream : List ℕ) → length (operations n at stream) ≤ length stream
unfolding operations
few_operations n at [] = omega arith
few_operations n at (b ∷ stream) = by (judged n at b) (few_operations n (suc at) stream)
  where
    by : (j : Judged) → length (operations n (suc at) stream) ≤ length stream
        → length (operations_from j (operations n (suc at) stream)) ≤ suc (length stream)
    by (good op) h = omega arith
    by (bad why) h = omega arith

-- and at most as many fence bytes as fences
one_fence : (b : Option Operation) → is_fence b ≤ 1
one_fence None = omega arith
one_fence (Some (Operation.Access k)) = omega arith
one_fence (Some (Operation.Fence f)) = omega arith

few_fences : (out : Stream) → fence_bytes (map byte_of out) ≤ fences out
unfolding fence_bytes
few_fences [] = omega arith
few_fences (Operation.Access k ∷ out) = omega (arith, ap is_fence (access_read k), few_fences out)
few_fences (Operation.Fence n ∷ out) = omega (arith, one_fence (byte_is (byte_of (Operation.Fence n))), few_fences out)

-- a run that is done gives the bytes of its output, with their fences counted and no end state
pub record Done (way : Way) (up target : Model) (stream bytes : List ℕ) (count state : ℕ) : Type 0 where
  pub output : Stream
  pub ran : run way up target (operations (length up.fences) 0 stream) ≡ done output
  pub writes : bytes ≡ map byte_of output
  pub counted : count ≡ fence_bytes bytes
  pub no_state : state ≡ 0

module _ (way : Way) (up target : Model) (stream : List ℕ) {bytes : List ℕ} {count state : ℕ}
    (given : direct way up target stream ≡ gives bytes count state) where
  abbrev n : ℕ
  n = length up.fences

  abbrev ops : Stream
  ops = operations n 0 stream

  pub is_done : Done way up target stream bytes count state
  unfolding direct
  is_done = by (run way up target ops) refl (fault n 0 stream) given
    where
      by : (r : Ran) → run way up target ops ≡ r → (f : Option Refusal) → outcome_of 0 r f ≡ gives bytes count state
          → Done way up target stream bytes count state
      by (refused i) r f e = differ (cc)
      by (done out) r (Some why) e = differ (cc)
      by (done out) r None e =
          let same : map byte_of out ≡ bytes = cc in
          let fenced : fence_bytes (map byte_of out) ≡ count = cc in
          let ended : 0 ≡ state = cc in
          record { output = out; ran = r; writes = sym same; counted = sym fenced ∙ ap fence_bytes same; no_state = sym ended }

  -- For readers: a direct run puts out at most one byte less than twice the stream, so 8,191 for a stream within its limit,
  pub longest_output : length bytes ≤ 2 * length stream - 1
  longest_output =
      let d = is_done in
      omega (
        arith,
        (few way up target (run_reach way up target ops d.output d.ran)).0,
        few_operations n 0 stream,
        length-map d.output byte_of,
        ap length d.writes,
      )

  -- and at most one fence less than the stream has bytes, so 4,095.
  pub most_fences : fence_bytes bytes ≤ length stream - 1
  most_fences =
      let d = is_done in
      omega (
        arith,
        (few way up target (run_reach way up target ops d.output d.ran)).1,
        few_operations n 0 stream,
        few_fences d.output,
        ap fence_bytes d.writes,
      )
