-- For each public function: two results that its contract allows are equal, since both are equal to what the contract names. Assumes nothing.
use Prim.Native.Nat.{ℕ}
use mathlib.Core.Path.{◌≡◌, sym, ◌∙◌}
use mathlib.Core.List.{List}
use Rattle.answers.specs.Answer.{Verdict}
use Rattle.layout.specs.Verdict.{verdict_of}

pub examine_one : (image : List ℕ) {r r' : Verdict} → r ≡ verdict_of image → r' ≡ verdict_of image → r ≡ r'
examine_one image p q = p ∙ sym q
