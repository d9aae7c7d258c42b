-- What is told of an input that was shown. No contract can say what is written to standard output; which answer was shown it can.
use Rattle.std.specs.Prelude.{ℕ, ◌≡◌, List}
use Rattle.answers.specs.Answer.{Answer}
use Rattle.answers.specs.Given.{Given, answer_of}
use Rattle.listing.specs.Listed.{Listed}

-- the answer of the listing, whose buffer holds the longest listing
pub record Shown (input : List ℕ) (r : Answer) : Type 0 where
  pub given : Given
  pub listed : Listed input given
  pub answer : r ≡ answer_of given 73728
