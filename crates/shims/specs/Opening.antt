-- Document 01: "Order: way ..; upstream text (1, 2, 3); target text; ..", and 12: "a way .. is out of range". A way's number is that of an
-- image, "the way (0 sparing, 1 full)".
use Rattle.std.specs.Prelude.{ℕ, ◌≡◌, cond, List, eqb, Option, Some, None, Result, Ok, Err}
use Rattle.answers.specs.declared.Refusal.{Refusal}
use Rattle.answers.specs.Given.{Given, unless_refused, GivenUnless}
use Rattle.rule.specs.declared.way.Way.{Way}
use Rattle.models.specs.declared.model.Model.{Model}
use Rattle.models.specs.Told.{Reading, accepting}
use Rattle.models.specs.Reading.{reading}
use Rattle.shims.specs.declared.Models.{Models}

abbrev pub way_of : ℕ → Option Way
way_of n = cond (eqb n 0) (Some Way.Sparing) (cond (eqb n 1) (Some Way.Full) None)

-- opened with these models, or refused
abbrev pub Opening : Type 0
Opening = Result Models Refusal

abbrev pub opening : Models → Opening
opening models = Ok models

abbrev pub refusing : Refusal → Opening
refusing why = Err why

-- the stages: each goes on, or is the call's refusal

abbrev pub on_way : Option Way → (Way → Opening) → Opening
on_way (Some way) more = more way
on_way None more = refusing Refusal.OutOfRange

abbrev pub on_reading : Reading → (Model → Opening) → Opening
on_reading (Ok m) more = more m
on_reading (Err why) more = refusing why

-- with the upstream model read; with the way read or not; the whole
abbrev pub on_target : Way → Model → List ℕ → Opening
on_target way upstream target =
    on_reading (reading target) λ (t : Model). opening (record { way = way; upstream = upstream; target = t })

abbrev pub opened_by : Option Way → List ℕ → List ℕ → Opening
opened_by read upstream target = on_way read λ (way : Way). on_reading (reading upstream) λ (u : Model). on_target way u target

abbrev pub opened : ℕ → List ℕ → List ℕ → Opening
opened number upstream target = opened_by (way_of number) upstream target

-- a number and two texts that are accepted name these models
pub record Opens (read : Option Way) (upstream target : List ℕ) (models : Models) : Type 0 where
  pub way_read : read ≡ Some models.way
  pub upstream_read : reading upstream ≡ accepting models.upstream
  pub target_read : reading target ≡ accepting models.target

-- What a call gives that opens so: it goes on with the models, or is the opening's refusal. The same where what is given is told by a property.

abbrev pub on_opened : Opening → (Models → Given) → Given
on_opened o more = unless_refused o more

abbrev pub GivenOnOpened : Opening → (Models → Given → Type 0) → Given → Type 0
GivenOnOpened o More = GivenUnless o More
