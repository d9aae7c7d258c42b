-- The contract of `built_in` allows one reading, being an equation, and that of `write_built_in` one answer and one final buffer: what is
-- delivered is determined. Assumes nothing.
use Prim.Native.Nat.{ℕ}
use mathlib.Core.Path.{◌≡◌, refl, sym, ◌∙◌}
use mathlib.Core.List.{List}
use Rattle.answers.specs.Answer.{Answer}
use Rattle.answers.specs.Given.{Delivers}
use Rattle.answers.proofs.Given.{delivers_one}
use Rattle.models.specs.Told.{Reading}
use Rattle.built_ins.specs.BuiltIns.{built_in_reading, built_in_given}

pub built_in_one : (number : ℕ) {r r' : Reading} → r ≡ built_in_reading number → r' ≡ built_in_reading number → r ≡ r'
built_in_one number p q = p ∙ sym q

pub write_built_in_one : (number : ℕ) {out after after' : List ℕ} {r r' : Answer} → Delivers (built_in_given number) out r after
    → Delivers (built_in_given number) out r' after' → (r ≡ r') × (after ≡ after')
write_built_in_one number = delivers_one refl
