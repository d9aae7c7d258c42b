-- What the C host holds, and what it knows from that: "sets all five numbers of *answer and returns the first of them, 0 where nothing was refused"
-- (include/shim.h). A promise is that of the call below.
use Rattle.std.specs.Prelude.{ℕ, ◌≡◌, List, [], ◌∷◌, Ok, Err}
use Rattle.answers.specs.declared.Refusal.{Refusal}
use Rattle.answers.specs.Answer.{Answer, wrote, number_of, place_of}

-- 0 was returned: the call is done, and its promise is kept by these numbers
pub record TellsDone (Promise : Answer → List ℕ → Type 0) (numbers after : List ℕ) : Type 0 where
  pub written : ℕ
  pub fences : ℕ
  pub state : ℕ
  pub told : numbers ≡ 0 ∷ 0 ∷ written ∷ fences ∷ state ∷ []
  pub promised : Promise (Ok (wrote written fences state)) after

-- another number was returned: the call is refused, with that number and its place, and zeros
pub record TellsRefused (Promise : Answer → List ℕ → Type 0) (number : ℕ) (numbers after : List ℕ) : Type 0 where
  pub why : Refusal
  pub number_is : number ≡ number_of why
  pub told : numbers ≡ number ∷ place_of why ∷ 0 ∷ 0 ∷ 0 ∷ []
  pub promised : Promise (Err why) after
