-- What an input is listed as is determined: the stages exclude each other, and what its parts are listed as is one. Assumes nothing.
use Rattle.std.proofs.Common.{Option}
use Prim.Native.Nat.{ℕ}
use mathlib.Core.Path.{◌≡◌, refl}
use mathlib.Core.List.{List}
use native.Mathlib.Omega.{arith}
use Rattle.answers.specs.Given.{Given}
use Rattle.listed.specs.Parts.{Parts}
use Rattle.listed.proofs.Determined.{parts_one}
use Rattle.listing.specs.Listed.{ShapeListed, shapeless, shaped, Listed, over, within}

shape_one : {o : Option Parts} {g h : Given} → ShapeListed o g → ShapeListed o h → g ≡ h
shape_one shapeless shapeless = refl
shape_one (shaped {p = p} a) (shaped b) = parts_one p a b

pub one_listing : {input : List ℕ} {g h : Given} → Listed input g → Listed input h → g ≡ h
one_listing (over l) (over k) = refl
one_listing (over l) (within k b) = absurd (omega arith)
one_listing (within l a) (over k) = absurd (omega arith)
one_listing (within l a) (within k b) = shape_one a b
