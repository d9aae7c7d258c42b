-- The rule's machine of a shim with the packed tables of each side's fences, which are lent together.
use Rattle.std.specs.Prelude.{ℕ}
use Rattle.rule.specs.declared.situation.Situation.{Situation}
use Rattle.rule.specs.Pairs.{Model}
use Rattle.rule.specs.Sides.{upstream_of, target_of}
use Rattle.mealy.specs.Runs.{Answer, Machine}
use Rattle.machine.specs.declared.step.Sides.{Sides}
use Rattle.machine.specs.Shim.{letter_answer, shim_of}

abbrev pub upstream : Sides → Model
upstream s = upstream_of s.shim s.ups.now

abbrev pub target : Sides → Model
target s = target_of s.shim s.fences.now

abbrev pub ruled : Sides → Machine Situation ℕ
ruled s = shim_of s.shim s.ups.now s.fences.now

-- what a letter of the alphabet gets
abbrev pub answered : Sides → Situation → ℕ → Answer ℕ Situation
answered s t a = letter_answer s.shim.way (upstream s) (target s) t a
