-- Document 01: "An operation is one byte: `l` ld, `L` cld, `s` st, `S` cst, `0` to `9` then `A` to `F` for fence numbers 0 to 15."
use Rattle.std.specs.Prelude.{ℕ, ◌+◌, ◌-◌, ◌<◌, cond, List, [], ◌∷◌, ltb, eqb, Option, Some, None}
use Rattle.ground.specs.Bytes.{in_range}
use Rattle.operations.specs.declared.Kind.{Kind}
use Rattle.operations.specs.declared.Operation.{Operation}

unfoldable pub byte_is : ℕ → Option Operation
byte_is b =
    cond (eqb b 108) (Some (Operation.Access Kind.Ld))
    (cond (eqb b 76) (Some (Operation.Access Kind.Cld))
    (cond (eqb b 115) (Some (Operation.Access Kind.St))
    (cond (eqb b 83) (Some (Operation.Access Kind.Cst))
    (cond (in_range 48 57 b) (Some (Operation.Fence (b - 48)))
    (cond (in_range 65 70 b) (Some (Operation.Fence (b - 65 + 10)))
    None)))))

abbrev pub access_byte : Kind → ℕ
access_byte Kind.Ld = 108
access_byte Kind.Cld = 76
access_byte Kind.St = 115
access_byte Kind.Cst = 83

-- a fence number above 15 has no byte, and gets 0, which is no operation
abbrev pub fence_byte : ℕ → ℕ
fence_byte n = cond (ltb n 10) (48 + n) (cond (ltb n 16) (65 + (n - 10)) 0)

abbrev pub byte_of : Operation → ℕ
byte_of (Operation.Access k) = access_byte k
byte_of (Operation.Fence n) = fence_byte n

-- the operations that have a byte
abbrev pub HasByte : Operation → Type 0
HasByte (Operation.Access k) = Unit {0}
HasByte (Operation.Fence n) = n < 16

-- how many bytes of an output are fences
abbrev pub is_fence : Option Operation → ℕ
is_fence None = 0
is_fence (Some (Operation.Access k)) = 0
is_fence (Some (Operation.Fence n)) = 1

unfoldable pub fence_bytes : List ℕ → ℕ
fence_bytes [] = 0
fence_bytes (b ∷ bytes) = is_fence (byte_is b) + fence_bytes bytes
