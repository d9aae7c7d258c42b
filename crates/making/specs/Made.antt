-- The machine of two models and a way, by their default tables and the tables of their fences.
use Rattle.std.specs.Prelude.{ℕ, List}
use Rattle.machine.specs.Outcome.{Outcome}
use Rattle.shims.specs.declared.Models.{Models}
use Rattle.shims.specs.Models.{model_of, shim_between}
use Rattle.machine.specs.Generated.{Generated}

pub record MachineMade (m : Models) (rows : List ℕ) (r : Outcome) (rows' : List ℕ) : Type 0 where
  pub generated : Generated (shim_between m) (model_of m.upstream).fences (model_of m.target).fences rows r rows'
