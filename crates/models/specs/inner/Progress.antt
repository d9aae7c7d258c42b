-- A model in the making, and how the reader goes on.
use Rattle.std.specs.Prelude.{ℕ, ◌+◌, Bool, cond, List, take, set, Option, Some, None, Result, Ok, Err}
use Rattle.std.specs.List.{list_any}
use Rattle.ground.specs.Bytes.{same_bytes}
use Rattle.answers.specs.declared.Refusal.{Refusal}
use Rattle.tables.specs.declared.table.Table.{Table}
use Rattle.models.specs.declared.scan.Line.{Line}
use Rattle.models.specs.declared.model.Name.{Name}
use Rattle.models.specs.declared.model.Model.{Model}
use Rattle.models.specs.Told.{Reading, bare, accepting, refusing}
use Rattle.models.specs.declared.reader.Progress.{Progress}

-- refused where the text departs from the form
abbrev pub formless : ℕ → Reading
formless at = refusing (Refusal.NotOfTheForm at)

-- go on with the line, or refuse
abbrev pub on_line : Result Line ℕ → (Line → Reading) → Reading
on_line (Ok line) more = more line
on_line (Err at) more = formless at

-- the name stands among others
abbrev pub among : Name → List Name → Bool
among n ms = list_any (λ m. same_bytes m.bytes n.bytes) ms

abbrev pub started : Name → Table → Progress
started name ppo = record { model = bare name ppo; repeat = None }

-- the place of the first name that stood above already: one was found, or it is the place of this name, or there is none
abbrev pub repeat_place : Option ℕ → Name → List Name → ℕ → Option ℕ
repeat_place (Some found) name above at = Some found
repeat_place None name above at = cond (among name above) (Some at) None

-- a model with the fence k stored, and one fence more
abbrev pub stored : Model → ℕ → Name → Table → Model
stored m k name table = record {
  ppo = m.ppo;
  fences = k + 1;
  tables = set m.tables k table.packed;
  name = m.name;
  names = set m.names k name;
}

abbrev pub with_fence : Progress → Name → ℕ → Table → Progress
with_fence p name at table = record {
  model = stored p.model p.model.fences name table;
  repeat = repeat_place p.repeat name (take p.model.fences p.model.names) at;
}

abbrev pub end_of : Model → Option ℕ → Reading
end_of m None = accepting m
end_of m (Some at) = refusing (Refusal.FenceNameRepeats at)

abbrev pub finished : Progress → Reading
finished p = end_of p.model p.repeat
