-- The contract of each public function allows one result: it is an equation, and of `write_out` also one final buffer, since what is delivered
-- is determined. Assumes nothing.
use Prim.Native.Nat.{ℕ}
use mathlib.Core.Path.{◌≡◌, refl, sym, ◌∙◌}
use mathlib.Core.List.{List}
use Rattle.answers.specs.declared.Refusal.{Refusal}
use Rattle.answers.specs.Answer.{Answer, number_of, place_of, numbers_of}
use Rattle.answers.specs.Given.{gives, Delivers}
use Rattle.answers.proofs.Given.{delivers_one}

pub number_one : (self : Refusal) {r r' : ℕ} → r ≡ number_of self → r' ≡ number_of self → r ≡ r'
number_one self p q = p ∙ sym q

pub place_one : (self : Refusal) {r r' : ℕ} → r ≡ place_of self → r' ≡ place_of self → r ≡ r'
place_one self p q = p ∙ sym q

pub numbers_one : (self : Answer) {r r' : List ℕ} → r ≡ numbers_of self → r' ≡ numbers_of self → r ≡ r'
numbers_one self p q = p ∙ sym q

pub write_out_one : (text : List ℕ) (fences state : ℕ) {out after after' : List ℕ} {r r' : Answer}
    → Delivers (gives text fences state) out r after → Delivers (gives text fences state) out r' after' → (r ≡ r') × (after ≡ after')
write_out_one text fences state = delivers_one refl
