-- Laws of counting the fences of an output: one byte more, none left, and two parts. Assumes nothing.
use Prim.Native.Nat.{ℕ, ◌+◌, ◌≤◌, ◌<◌}
use mathlib.Core.Path.{◌≡◌, sym, ap, ◌∙◌}
use mathlib.Core.List.{List, [], ◌∷◌, ◌++◌}
use native.Mathlib.Omega.{arith}
use native.Mathlib.Numerals.{add-one}
use lib.ListN.{length, get_or, drop, drop_of_length-le}
use lib.Seq.{drop-cons}
use Rattle.operations.specs.Operation.{byte_is, is_fence, fence_bytes}

pub fences_next : (bytes : List ℕ) (i : ℕ) → i < length bytes
    → fence_bytes (drop i bytes) ≡ is_fence (byte_is (get_or bytes i 0)) + fence_bytes (drop (i + 1) bytes)
unfolding fence_bytes
fences_next bytes i l =
    ap fence_bytes (drop-cons bytes i 0 l)
    ∙ ap (λ (n : ℕ). is_fence (byte_is (get_or bytes i 0)) + fence_bytes (drop n bytes)) (sym (add-one i))

pub fences_over : (bytes : List ℕ) (i : ℕ) → length bytes ≤ i → fence_bytes (drop i bytes) ≡ 0
unfolding fence_bytes
fences_over bytes i l = ap fence_bytes (drop_of_length-le bytes l)

pub fences-append : (p q : List ℕ) → fence_bytes (p ++ q) ≡ fence_bytes p + fence_bytes q
unfolding fence_bytes
fences-append [] q = omega arith
fences-append (b ∷ p) q = omega (arith, fences-append p q)
