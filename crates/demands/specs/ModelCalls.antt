-- The calls that take a model's text or a built-in's number, as their caller sees them. Document 01: 12, "a .. built-in number is out of range";
-- "text (1, 2, 3)"; "7 last". "Two models are compared by their ppo: equal, first stronger, second stronger, or neither; stronger means no cell
-- lower and some cell higher."
use Rattle.std.specs.Prelude.{ℕ, ◌<◌, ◌≤◌, List, length, Ok, Err}
use Rattle.comparison.specs.Comparison.{Compared, Compares}
use Rattle.answers.specs.declared.Refusal.{Refusal}
use Rattle.models.specs.declared.model.Model.{Model}
use Rattle.models.specs.Text.{text_of}
use Rattle.models.specs.Told.{Told, accepting, refusing}
use Rattle.built_ins.specs.BuiltIns.{built_in}
use Rattle.comparison.specs.declared.Comparison.{Comparison}

-- a text that is read and written back, where the buffer has this room
pub data ModelRefused (text : List ℕ) (room : ℕ) : Refusal → Type 0 where
  text_refused : {why : Refusal} → Told text (refusing why) → ModelRefused text room why
  too_small : {m : Model} → Told text (accepting m) → room < length text → ModelRefused text room Refusal.BufferTooSmall

-- a built-in model whose text is written
pub data BuiltInRefused (number room : ℕ) : Refusal → Type 0 where
  out_of_range : 15 < number → BuiltInRefused number room Refusal.OutOfRange
  too_small : number ≤ 15 → room < length (text_of (built_in number)) → BuiltInRefused number room Refusal.BufferTooSmall

-- what two texts compare as: the first one's refusal, then the second one's, then how their default tables compare
pub data TextsCompare (first second : List ℕ) : Compared → Type 0 where
  first_refused : {why : Refusal} → Told first (refusing why) → TextsCompare first second (Err why)
  second_refused : {a : Model} {why : Refusal} → Told first (accepting a) → Told second (refusing why)
      → TextsCompare first second (Err why)
  compares : {a b : Model} {is : Comparison} → Told first (accepting a) → Told second (accepting b) → Compares a.ppo b.ppo is
      → TextsCompare first second (Ok is)
