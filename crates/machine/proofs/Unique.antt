-- The contract of `generate` allows one outcome and one array of rows afterwards. Assumes nothing.
use Prim.Native.Nat.{ℕ}
use mathlib.Core.Path.{◌≡◌, refl}
use mathlib.Core.List.{List}
use lib.ListN.{length}
use Rattle.machine.specs.Outcome.{Outcome}
use Rattle.rule.specs.declared.way.Shim.{Shim}
use Rattle.machine.specs.Shim.{shim_of}
use Rattle.machine.specs.Generated.{named, Generated}
use Rattle.machine.proofs.Zeros.{at_most_sixteen}
use Rattle.machine.proofs.Determined.{built_one}

pub generate_one : (shim : Shim) (ups fences rows : List ℕ) {r r' : Outcome} {after after' : List ℕ}
    → Generated shim ups fences rows r after → Generated shim ups fences rows r' after' → (r ≡ r') × (after ≡ after')
generate_one shim ups fences rows {r} {r'} p q =
    built_one (shim_of shim (named ups) (named fences)) shim.way (length (named ups)) (length (named fences)) refl
    (at_most_sixteen fences refl) rows r r' p q
