-- The rule as a machine: its situations, its step, its alphabet. 01: "by operation in the order l, L, s, S, 0 upwards".
use Rattle.std.specs.Prelude.{ℕ, ◌-◌, cond, List, length, ltb}
use Rattle.std.proofs.Common.{le-ltb}
use Rattle.operations.specs.Alphabet.{access_letters, letters_with, kind_of}
use Rattle.rule.specs.declared.situation.Situation.{Situation}
use Rattle.rule.specs.declared.way.Way.{Way}
use Rattle.rule.specs.declared.way.Shim.{Shim}
use Rattle.rule.specs.declared.way.Step.{Step}
use Rattle.rule.specs.Pairs.{Model, fence_table}
use Rattle.rule.specs.Sides.{upstream_of, target_of}
use Rattle.rule.specs.Situation.{fresh, asks, stepped}
use Rattle.mealy.specs.Runs.{Answer, refused, taken, Machine}

-- the letters of an upstream model
abbrev pub letters_of : Model → ℕ
letters_of up = letters_with (length up.fences)

-- the output is what is put before an access: a fence's number, or 255 for none
abbrev pub step_answer : Step → Answer ℕ Situation
step_answer (Step.Plain next) = taken 255 next
step_answer (Step.Fenced g next) = taken g next
step_answer Step.Refused = refused

-- what a letter of the alphabet gets
abbrev pub letter_answer : Way → Model → Model → Situation → ℕ → Answer ℕ Situation
letter_answer way up target s a =
    cond (ltb a access_letters) (step_answer (stepped way up.ppo target s (kind_of a))) (taken 255 (asks (fence_table up (a - access_letters)) s))

-- the machine whose run is the rule's
abbrev pub shim : Way → Model → Model → Machine Situation ℕ
shim way up target =
    record {
      letters = letters_of up;
      step = λ s a. cond (ltb a (letters_of up)) (letter_answer way up target s a) refused;
      outside = λ s a h. rw (le-ltb a (letters_of up) h);
      fresh = fresh;
    }

-- the same of a shim's way and defaults, and the packed tables of each side's fences
abbrev pub shim_of : Shim → List ℕ → List ℕ → Machine Situation ℕ
shim_of s ups fences = shim s.way (upstream_of s ups) (target_of s fences)
