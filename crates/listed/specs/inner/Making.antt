-- How the call goes on once the machine is made.
use Rattle.std.specs.Prelude.{ℕ, List, Ok, Err}
use Rattle.machine.specs.Outcome.{Outcome}
use Rattle.answers.specs.Given.{Given, gives, refuses}
use Rattle.operations.specs.Alphabet.{letters_with}
use Rattle.shims.specs.declared.Models.{Models}
use Rattle.machine.specs.declared.machine.Machine.{Machine}
use Rattle.machine.specs.Rows.{answer_at}
use Rattle.listed.specs.Printed.{Listing, listing}
use Rattle.listed.specs.Parts.{listing_of}
use Rattle.listed.specs.inner.Limits.{Listable}

-- the listing of a machine in memory
abbrev pub made_listing : Models → Machine → List ℕ → List ℕ → ℕ → Listing
made_listing m x rows output fences = listing_of m x.states (letters_with x.ups) (answer_at rows) output fences

-- what is given for an outcome
abbrev pub made_given : Outcome → Models → List ℕ → List ℕ → ℕ → Given
made_given (Ok x) m rows output fences = gives (listing (made_listing m x rows output fences)) fences 0
made_given (Err why) m rows output fences = refuses why

abbrev pub MadeListable : Outcome → List ℕ → List ℕ → ℕ → Type 0
MadeListable (Ok x) rows output fences = Listable x rows output fences
MadeListable (Err why) rows output fences = Unit {0}
