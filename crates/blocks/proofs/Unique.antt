-- For each public function: two results that its contract allows are equal, since both are equal to what the contract names. Assumes nothing.
use Prim.Native.Nat.{ℕ, ◌<◌}
use mathlib.Core.Path.{◌≡◌, sym, ◌∙◌}
use mathlib.Core.List.{List}
use Rattle.std.proofs.Common.{Option}
use Rattle.ground.specs.Lowest.{lowest}
use Rattle.blocks.specs.Wrong.{check_in, wrong}

pub block_check_one : (image : List ℕ) (b : ℕ) {r r' : ℕ} → (r ≡ check_in image b) × (r < 65536) → (r' ≡ check_in image b) × (r' < 65536) → r ≡ r'
block_check_one image b p q = p.0 ∙ sym q.0

pub lowest_wrong_one : (image : List ℕ) (count : ℕ) {r r' : Option ℕ} → r ≡ lowest (wrong image) 0 count → r' ≡ lowest (wrong image) 0 count → r ≡ r'
lowest_wrong_one image count p q = p ∙ sym q
