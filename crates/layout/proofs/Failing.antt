-- What a test that fails tells. Assumes nothing.
use Prim.Native.Nat.{ℕ}
use mathlib.Core.Path.{◌≡◌, refl}
use mathlib.Core.Bool.{Bool, true, false, not, cond}
use borrow.Author.Tests.{eqb-true, not-false}
use lib.Dec.{eqb}
use Rattle.ground.proofs.Truths.{true_false}

-- no test passes of those that end a choice
pub neither : (t : Bool) {x : Bool} → cond t true x ≡ false → (t ≡ false) × (x ≡ false)
neither true e = true_false e
neither false e = (refl, e)

pub chosen : (t : Bool) {x : Bool} → cond t x true ≡ false → (t ≡ true) × (x ≡ false)
chosen true e = (refl, e)
chosen false e = true_false e

pub equal : (a b : ℕ) → not (eqb a b) ≡ false → a ≡ b
equal a b e = eqb-true a b (not-false (eqb a b) e)
