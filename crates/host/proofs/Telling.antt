-- What is told of a call that has one answer and one final buffer is one thing: the numbers are those of the answer. Assumes nothing.
use Prim.Native.Nat.{ℕ}
use mathlib.Core.Path.{◌≡◌, refl, sym, ap, ◌∙◌}
use mathlib.Core.List.{List}
use Rattle.answers.specs.Answer.{Answer, numbers_of}
use Rattle.answers.specs.Given.{Given, Delivers}
use Rattle.answers.proofs.Given.{delivers_one}
use Rattle.host.specs.Border.{number_in, Tells}

-- a promise that one answer and one final buffer keep
abbrev pub Determined : (Answer → List ℕ → Type 0) → Type 0
Determined Promise = (a b : Answer) (after after' : List ℕ) → Promise a after → Promise b after' → (a ≡ b) × (after ≡ after')

pub same_told : {Promise : Answer → List ℕ → Type 0} {n n' : ℕ} {numbers numbers' after after' : List ℕ} → Determined Promise
    → Tells Promise n numbers after → Tells Promise n' numbers' after'
    → (n ≡ n') × (numbers ≡ numbers') × (after ≡ after')
same_told one a b =
    let e = one a.what b.what _ _ a.promised b.promised in (
      a.returned ∙ ap number_in e.0 ∙ sym b.returned,
      a.told ∙ ap numbers_of e.0 ∙ sym b.told,
      e.1,
    )

-- where the call delivers what its inputs determine
pub same_delivered : (g : Given) {out : List ℕ} {n n' : ℕ} {numbers numbers' after after' : List ℕ} → Tells (Delivers g out) n numbers after
    → Tells (Delivers g out) n' numbers' after' → (n ≡ n') × (numbers ≡ numbers') × (after ≡ after')
same_delivered g a b = same_told (λ x y s t p q. delivers_one refl p q) a b
