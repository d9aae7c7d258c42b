-- Two models that were read, as the rule sees them.
use Rattle.std.specs.Prelude.{take}
use Rattle.rule.specs.declared.way.Shim.{Shim}
use Rattle.rule.specs.Pairs.{Model}
use Rattle.models.specs.declared.model.Model as held
use Rattle.shims.specs.declared.Models.{Models}

-- a model's default table and the tables of its fences
abbrev pub model_of : held.Model → Model
model_of m = record { ppo = m.ppo; fences = take m.fences m.tables }

-- the shim between two models, but for their fences
abbrev pub shim_between : Models → Shim
shim_between m = record { way = m.way; upstream = m.upstream.ppo; target = m.target.ppo }
