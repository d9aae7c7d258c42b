-- Which blocks are wrong: broken off, by number, by check, as the definition's tests have it. Assumes nothing.
use Prim.Native.Nat.{ℕ, ◌+◌, ◌*◌, ◌/◌, ◌<◌, ◌≤◌}
use mathlib.Core.Path.{◌≡◌, sym, ap₂, ◌∙◌}
use mathlib.Core.Bool.{true, false, not}
use mathlib.Core.List.{List}
use native.Mathlib.Omega.{arith}
use borrow.Author.Tests.{lt-ltb, le-ltb, eq-eqb, ne_eqb}
use lib.Dec.{ltb, eqb}
use lib.ListN.{length}
use Rattle.ground.specs.Bytes.{at}
use Rattle.blocks.specs.Checksum.{two_bytes, checksum}
use Rattle.blocks.specs.Wrong.{wrong, check_of, check_in}

module _ (image : List ℕ) (b : ℕ) where
  pub wrong_short : length image / 512 ≤ b → true ≡ wrong image b
  unfolding wrong
  wrong_short l = rw (lt-ltb (length image) (512 * b + 512) (omega arith))

  module _ (whole : b < length image / 512) (n : ℕ) (number : n ≡ two_bytes (at image (512 * b)) (at image (512 * b + 1))) where
    there : ltb (length image) (512 * b + 512) ≡ false
    there = le-ltb (length image) (512 * b + 512) (omega arith)

    pub wrong_number : (n ≡ b → ⊥) → true ≡ wrong image b
    unfolding wrong
    wrong_number h = rw (there, ne_eqb _ _ (λ e. h (number ∙ e)))

    pub wrong_check : (s c : ℕ) → n ≡ b → s ≡ two_bytes (at image (512 * b + 510)) (at image (512 * b + 510 + 1))
        → c ≡ checksum 255 (λ (p : ℕ). at image (512 * b + p)) → not (eqb s c) ≡ wrong image b
    unfolding wrong check_of
    wrong_check s c h e f = rw (there, eq-eqb _ _ (sym number ∙ h)) (ap₂ (λ (x y : ℕ). not (eqb x y)) e f)

-- the check of a block that is all there, and of one that is not
pub check_there : (image : List ℕ) (b : ℕ) → b < length image / 512 → check_of image b ≡ check_in image b
unfolding check_in
check_there image b l = rw (lt-ltb b (length image / 512) l)

pub check_absent : (image : List ℕ) (b : ℕ) → length image / 512 ≤ b → 0 ≡ check_in image b
unfolding check_in
check_absent image b l = rw (le-ltb b (length image / 512) l)
