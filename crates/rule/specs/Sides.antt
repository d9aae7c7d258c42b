-- The two sides of a shim as models: its default tables, with the packed tables of each side's fences.
use Rattle.std.specs.Prelude.{ℕ, List}
use Rattle.rule.specs.declared.way.Shim.{Shim}
use Rattle.rule.specs.Pairs.{Model}

abbrev pub upstream_of : Shim → List ℕ → Model
upstream_of shim fences = record { ppo = shim.upstream; fences = fences }

abbrev pub target_of : Shim → List ℕ → Model
target_of shim fences = record { ppo = shim.target; fences = fences }
