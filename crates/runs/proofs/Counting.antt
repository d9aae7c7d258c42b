-- The fence bytes of an output are the fences of its operations: reading the byte of an operation gives it back. Assumes nothing.
use Rattle.std.proofs.Common.{Option, Some, None}
use Prim.Native.Nat.{ℕ, ◌+◌, ◌≤◌, ◌<◌}
use mathlib.Core.Path.{◌≡◌, refl, sym, ap₂, ◌∙◌}
use mathlib.Core.List.{List, [], ◌∷◌, map}
use native.Mathlib.Omega.{arith}
use Rattle.std.specs.Prelude.{cond, eqb, count_by}
use Rattle.std.proofs.lemmas.List.Recursion.{is_count_by}
use Rattle.operations.specs.declared.Operation.{Operation}
use Rattle.operations.specs.Operation.{byte_is, byte_of, is_fence, fence_bytes}
use Rattle.operations.proofs.Bytes.{access_read, fence_read}
use Rattle.rule.specs.Rule.{every_fence}
use Rattle.rule.specs.Stream.{Stream, fences}

-- the fences of a list of bytes are the bytes that read as a fence
fence_or_not : (b : Option Operation) (n : ℕ) → is_fence b + n ≡ cond (eqb (is_fence b) 1) (1 + n) n
fence_or_not None n = omega arith
fence_or_not (Some (Operation.Access k)) n = omega arith
fence_or_not (Some (Operation.Fence f)) n = refl

pub fences_counted : (bytes : List ℕ) → count_by (λ (b : ℕ). eqb (is_fence (byte_is b)) 1) bytes ≡ fence_bytes bytes
unfolding fence_bytes
fences_counted bytes =
    sym (is_count_by fence_bytes (λ (b : ℕ). eqb (is_fence (byte_is b)) 1) refl (λ b more. fence_or_not (byte_is b) (fence_bytes more)) bytes)

-- For readers: where a stream's fences are of a model with at most sixteen, the fence bytes of its bytes are its fences.
pub fence_bytes_are_fences : (n : ℕ) → n ≤ 16 → (s : Stream) → every_fence (λ (m : ℕ). m < n) s → fence_bytes (map byte_of s) ≡ fences s
unfolding fence_bytes
fence_bytes_are_fences n few [] its = refl
fence_bytes_are_fences n few (Operation.Access k ∷ s) its =
    ap₂ (λ (b : Option Operation) (m : ℕ). is_fence b + m) (access_read k) (fence_bytes_are_fences n few s its) ∙ omega arith
fence_bytes_are_fences n few (Operation.Fence g ∷ s) its =
    ap₂ (λ (b : Option Operation) (m : ℕ). is_fence b + m) (fence_read g (omega (arith, its.0))) (fence_bytes_are_fences n few s its.1) ∙ omega arith
