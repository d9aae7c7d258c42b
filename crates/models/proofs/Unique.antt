-- The contract of each public function allows one result: it is an equation, and of `read` 01's words alone, its other clause, allow one reading
-- for each text too, since each that they allow is what the equation says. Assumes nothing.
use Prim.Native.Nat.{ℕ}
use mathlib.Core.Path.{◌≡◌, sym, ◌∙◌}
use mathlib.Core.List.{List}
use lib.ListN.{take}
use Rattle.answers.specs.declared.Refusal.{Refusal}
use Rattle.tables.specs.declared.table.Table.{Table}
use Rattle.models.specs.declared.model.Name.{Name}
use Rattle.models.specs.declared.model.Model.{Model}
use Rattle.models.specs.Told.{Reading, filled, bare, refusing, Told}
use Rattle.models.proofs.Words.{told_is}

pub first_bytes_one : (text : List ℕ) {r r' : Name} → r ≡ filled (take 16 text) → r' ≡ filled (take 16 text) → r ≡ r'
first_bytes_one text p q = p ∙ sym q

pub bare_model_one : (name : Name) (ppo : Table) {r r' : Model} → r ≡ bare name ppo → r' ≡ bare name ppo → r ≡ r'
bare_model_one name ppo p q = p ∙ sym q

pub refuse_one : (why : Refusal) {r r' : Reading} → r ≡ refusing why → r' ≡ refusing why → r ≡ r'
refuse_one why p q = p ∙ sym q

pub read_one : (text : List ℕ) {r r' : Reading} → Told text r → Told text r' → r ≡ r'
read_one text p q = told_is p ∙ sym (told_is q)
