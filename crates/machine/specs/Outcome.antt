-- What generating comes to.
use Rattle.std.specs.Prelude.{Result}
use Rattle.answers.specs.declared.Refusal.{Refusal}
use Rattle.machine.specs.declared.machine.Machine.{Machine}

-- the machine's numbers, or why there is none
abbrev pub Outcome : Type 0
Outcome = Result Machine Refusal
