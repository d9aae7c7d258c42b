-- What a call opens with, in 01's words: a way's number and two texts, and the two models that they are; or the first refusal among them. "Order:
-- way ..; upstream text (1, 2, 3); target text".
use Rattle.std.specs.Prelude.{ℕ, ◌≡◌, List}
use Rattle.answers.specs.declared.Refusal.{Refusal}
use Rattle.rule.specs.declared.way.Way.{Way}
use Rattle.rule.specs.Pairs.{Model}
use Rattle.rule.specs.Rule.{way_number}
use Rattle.models.specs.declared.model.Model as held
use Rattle.models.specs.Told.{Told, accepting, refusing}
use Rattle.shims.specs.declared.Models.{Models}
use Rattle.shims.specs.Models.{model_of}

pub record Opened (number : ℕ) (upstream target : List ℕ) (models : Models) : Type 0 where
  pub way_named : number ≡ way_number models.way
  pub upstream_told : Told upstream (accepting models.upstream)
  pub target_told : Told target (accepting models.target)

-- the two models as the rule sees them
abbrev pub up : Models → Model
up m = model_of m.upstream

abbrev pub on : Models → Model
on m = model_of m.target

-- refused before there are two models
pub data OpeningRefused (number : ℕ) (upstream target : List ℕ) : Refusal → Type 0 where
  no_way : ((way : Way) → number ≡ way_number way → ⊥) → OpeningRefused number upstream target Refusal.OutOfRange
  upstream_refused : {why : Refusal} (way : Way) → number ≡ way_number way → Told upstream (refusing why) → OpeningRefused number upstream target why
  target_refused : {why : Refusal} {u : held.Model} (way : Way) → number ≡ way_number way → Told upstream (accepting u) → Told target (refusing why)
      → OpeningRefused number upstream target why
