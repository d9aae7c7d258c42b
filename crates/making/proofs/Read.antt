-- A model that was read has at most sixteen fences, so that all of them count: its machine is that of the model as the rule sees it. Assumes
-- nothing.
use Prim.Native.Nat.{ℕ, ◌≤◌}
use mathlib.Core.Path.{◌≡◌, subst₂}
use mathlib.Core.List.{List}
use lib.ListN.{length}
use lib.Seq.{take_all}
use Rattle.machine.specs.Outcome.{Outcome}
use Rattle.models.specs.declared.model.Model.{Model}
use Rattle.shims.specs.declared.Models.{Models}
use Rattle.shims.specs.Models.{model_of, shim_between}
use Rattle.shims.proofs.Fences.{few_fences}
use Rattle.machine.specs.Shim.{shim, shim_of}
use Rattle.machine.specs.Generated.{Built, named}
use Rattle.making.specs.Made.{MachineMade}

-- every fence has a name in a stream
pub all_named : (m : Model) → m.fences ≤ 16 → named (model_of m).fences ≡ (model_of m).fences
all_named m few = take_all 16 (model_of m).fences (few_fences m few)

module _ (m : Models) (up : m.upstream.fences ≤ 16) (on : m.target.fences ≤ 16) {rows rows' : List ℕ} {r : Outcome} where
  pub made_read : MachineMade m rows r rows'
      → Built (shim m.way (model_of m.upstream) (model_of m.target)) m.way (length (model_of m.upstream).fences)
      (length (model_of m.target).fences) rows r rows'
  made_read g =
      subst₂ (λ (a b : List ℕ). Built (shim_of (shim_between m) a b) m.way (length a) (length b) rows r rows') (all_named m.upstream up)
      (all_named m.target on) g.generated
