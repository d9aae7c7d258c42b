-- What a call has done that gives a listing; the theorems of the call are stated with this.
use Rattle.std.specs.Prelude.{ℕ, ◌≤◌, ◌≡◌, List, length, Some}
use Rattle.shims.specs.declared.Models.{Models}
use Rattle.shims.specs.Opening.{Opens}
use Rattle.operations.specs.Operation.{fence_bytes}
use Rattle.runs.specs.Bytes.{puts}
use Rattle.runs.specs.Call.{run_given}
use Rattle.mealy.specs.Runs.{Answer, Same}
use Rattle.mealy.specs.Arrivals.{Described}
use Rattle.listed.specs.Parts.{Parts, rule_of, listed_text}
use Rattle.listing.specs.Shape.{shape}

-- its parts and its two models, the output of the direct run, the states of the machine with their rows; and the text tells these
pub record AcceptedInput (input text : List ℕ) (fences state : ℕ) : Type 0 where
  pub within : length input ≤ 32768
  pub parts : Parts
  pub shaped : shape input ≡ Some parts
  pub models : Models
  pub opens : Opens (Some parts.way) parts.upstream parts.target models
  pub output : List ℕ
  pub ran : run_given models parts.stream ≡ puts output
  pub states : ℕ
  pub row : ℕ → ℕ → Answer ℕ ℕ
  pub few_states : states ≤ 255
  pub described : Described (rule_of models) (Same (rule_of models)) states row
  pub text_is : text ≡ listed_text models output states row
  pub fences_are : fences ≡ fence_bytes output
  pub no_state : state ≡ 0
