-- What the C host gets. Document 01: "The translator host is written in C and calls the library with numbers and byte regions." The refusal's
-- number is the first of the five numbers of an answer, and is returned too; 0 is success.
use Rattle.std.specs.Prelude.{ℕ, ◌≡◌, List, Ok, Err}
use Rattle.comparison.specs.Comparison.{Compared}
use Rattle.answers.specs.Answer.{Answer, wrote, number_of, numbers_of}
use Rattle.comparison.specs.Comparison as Comparison

abbrev pub number_in : Answer → ℕ
number_in (Ok _) = 0
number_in (Err why) = number_of why

-- a comparison as an answer, and as its relation: 0 equal, 1 first stronger, 2 second stronger, 3 neither; 0 where refused
abbrev pub compared_as : Compared → Answer
compared_as (Ok is) = Ok (wrote 0 0 0)
compared_as (Err why) = Err why

abbrev pub relation_of : Compared → ℕ
relation_of (Ok is) = Comparison.number_of is
relation_of (Err why) = 0

-- what is told of a call whose promise relates its answer to the buffer after it: the numbers are those of an answer that keeps the promise
pub record Tells (Promise : Answer → List ℕ → Type 0) (number : ℕ) (numbers after : List ℕ) : Type 0 where
  pub what : Answer
  pub promised : Promise what after
  pub returned : number ≡ number_in what
  pub told : numbers ≡ numbers_of what

-- what is told of a comparison: its relation too
pub record TellsRelation (compared : Compared) (number relation : ℕ) (numbers : List ℕ) : Type 0 where
  pub returned : number ≡ number_in (compared_as compared)
  pub set : relation ≡ relation_of compared
  pub told : numbers ≡ numbers_of (compared_as compared)
