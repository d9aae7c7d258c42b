-- The contracts of `write`, `write_reading` and `rewrite` allow one answer and one final buffer each: what is delivered is determined. Assumes
-- nothing.
use Prim.Native.Nat.{ℕ}
use mathlib.Core.Path.{◌≡◌, refl}
use mathlib.Core.List.{List}
use Rattle.answers.specs.Answer.{Answer}
use Rattle.answers.specs.Given.{gives, Delivers}
use Rattle.answers.proofs.Given.{delivers_one}
use Rattle.models.specs.declared.model.Model.{Model}
use Rattle.models.specs.Told.{Reading}
use Rattle.models.specs.Text.{text_of}
use Rattle.writing.specs.Writing.{described}
use Rattle.writing.specs.Calls.{reading_given, back_given}

pub write_one : (model : Model) {out after after' : List ℕ} {r r' : Answer} → Delivers (gives (text_of (described model)) 0 0) out r after
    → Delivers (gives (text_of (described model)) 0 0) out r' after' → (r ≡ r') × (after ≡ after')
write_one model = delivers_one refl

pub write_reading_one : (reading : Reading) {out after after' : List ℕ} {r r' : Answer} → Delivers (reading_given reading) out r after
    → Delivers (reading_given reading) out r' after' → (r ≡ r') × (after ≡ after')
write_reading_one reading = delivers_one refl

pub rewrite_one : (text : List ℕ) {out after after' : List ℕ} {r r' : Answer} → Delivers (back_given text) out r after
    → Delivers (back_given text) out r' after' → (r ≡ r') × (after ≡ after')
rewrite_one text = delivers_one refl
