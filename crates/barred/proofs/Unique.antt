-- For each public function: two results that its contract allows are equal, since both are equal to what the contract names. Assumes nothing.
use Prim.Native.Nat.{ℕ}
use mathlib.Core.Path.{◌≡◌, sym, ◌∙◌}
use mathlib.Core.Bool.{Bool}
use mathlib.Core.List.{List}
use Rattle.barred.specs.Barred.{barred}

pub is_barred_one : (image : List ℕ) (i : ℕ) {r r' : Bool} → r ≡ barred image i → r' ≡ barred image i → r ≡ r'
is_barred_one image i p q = p ∙ sym q
