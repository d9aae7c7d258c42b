-- What is written after a reading: its text counts only where the reading is accepted, and there it is the text that was read. Assumes
-- nothing.
use Rattle.std.proofs.Common.{Ok, Err}
use Prim.Native.Nat.{ℕ}
use mathlib.Core.Path.{◌≡◌, refl, ap}
use mathlib.Core.List.{List}
use Rattle.answers.specs.Given.{gives}
use Rattle.models.specs.declared.model.Model.{Model}
use Rattle.models.specs.Told.{Reading, accepting}
use Rattle.models.specs.Text.{text_of}
use Rattle.models.specs.Reading.{reading}
use Rattle.writing.specs.Writing.{described}
use Rattle.writing.specs.Calls.{text_given, reading_given}
use Rattle.writing.proofs.RoundTrip.{written_read}

pub given_settled : (r : Reading) (y : List ℕ) → ((m : Model) → r ≡ accepting m → text_of (described m) ≡ y) → reading_given r ≡ text_given r y
given_settled (Ok m) y h = ap (λ (t : List ℕ). gives t 0 0) (h m refl)
given_settled (Err why) y h = refl

-- reading and writing back writes the text itself
pub given_back : (t : List ℕ) → reading_given (reading t) ≡ text_given (reading t) t
given_back t = given_settled (reading t) t λ m e. written_read t m e
