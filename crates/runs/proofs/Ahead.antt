-- Laws of putting bytes before what follows: the bytes are joined and their fences added. Assumes nothing.
use Prim.Native.Nat.{ℕ, ◌+◌}
use mathlib.Core.Path.{◌≡◌, refl, sym, ap, ap₂}
use mathlib.Core.List.{List, [], ◌++◌, append_assoc}
use native.Mathlib.Omega.{arith}
use Rattle.answers.specs.Given.{Given, gives, refuses}
use Rattle.operations.specs.Operation.{fence_bytes}
use Rattle.operations.proofs.Counting.{fences-append}
use Rattle.runs.specs.Bytes.{puts}
use Rattle.runs.specs.inner.Moves.{ahead}

pub ahead_none : (x : Given) → ahead [] x ≡ x
unfolding fence_bytes
ahead_none (gives bytes fences state) =
    let e : 0 + fences ≡ fences = omega arith in
    ap (λ (n : ℕ). gives bytes n state) e
ahead_none (refuses why) = refl

pub ahead_puts : (p q : List ℕ) → ahead p (puts q) ≡ puts (p ++ q)
ahead_puts p q = ap (λ (n : ℕ). gives (p ++ q) n 0) (sym (fences-append p q))

pub ahead_ahead : (p q : List ℕ) (x : Given) → ahead p (ahead q x) ≡ ahead (p ++ q) x
ahead_ahead p q (gives bytes fences state) =
    let e : fence_bytes p + (fence_bytes q + fences) ≡ fence_bytes (p ++ q) + fences = omega (arith, fences-append p q) in
    ap₂ (λ (l : List ℕ) (n : ℕ). gives l n state) (sym (append_assoc p q bytes)) e
ahead_ahead p q (refuses why) = refl
