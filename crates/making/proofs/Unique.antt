-- The contract of `make` allows one outcome and one array of rows afterwards: it is the contract of `machine::generate`, opened. Assumes nothing.
use Prim.Native.Nat.{ℕ}
use mathlib.Core.Path.{◌≡◌}
use mathlib.Core.List.{List}
use Rattle.machine.specs.Outcome.{Outcome}
use Rattle.shims.specs.declared.Models.{Models}
use Rattle.shims.specs.Models.{model_of, shim_between}
use Rattle.machine.proofs.Unique.{generate_one}
use Rattle.making.specs.Made.{MachineMade}

pub make_one : (models : Models) (rows : List ℕ) {r r' : Outcome} {after after' : List ℕ}
    → MachineMade models rows r after → MachineMade models rows r' after' → (r ≡ r') × (after ≡ after')
make_one models rows p q =
    generate_one (shim_between models) (model_of models.upstream).fences (model_of models.target).fences rows p.generated q.generated
