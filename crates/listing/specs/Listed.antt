-- What `shimlist` prints for its input. Document 01: "Input over 32,768 bytes prints `refused 1 at 0`, and input not of this shape prints
-- `refused 2 at 0`. Otherwise any refusal prints only `refused N at K`, with K counted within its own text or stream."
use Rattle.std.specs.Prelude.{ℕ, ◌≤◌, ◌<◌, List, length, Option, None, Some}
use Rattle.answers.specs.declared.Refusal.{Refusal}
use Rattle.answers.specs.Given.{Given, refuses}
use Rattle.listed.specs.Parts.{Parts, PartsListed}
use Rattle.listing.specs.Shape.{shape}

-- the shape comes before all else, but for the length
pub data ShapeListed : Option Parts → Given → Type 0 where
  shapeless : ShapeListed None (refuses (Refusal.NotOfTheForm 0))
  shaped : {p : Parts} {g : Given} → PartsListed p g → ShapeListed (Some p) g

pub data Listed (input : List ℕ) : Given → Type 0 where
  over : 32768 < length input → Listed input (refuses Refusal.OverLimit)
  within : {g : Given} → length input ≤ 32768 → ShapeListed (shape input) g → Listed input g
