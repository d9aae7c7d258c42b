-- The contract of `list` allows one answer and one final buffer. Assumes nothing.
use Prim.Native.Nat.{ℕ}
use mathlib.Core.Path.{◌≡◌}
use mathlib.Core.List.{List}
use Rattle.answers.specs.Answer.{Answer}
use Rattle.answers.specs.Given.{Answers}
use Rattle.answers.proofs.Given.{answers_one}
use Rattle.listing.specs.Listed.{Listed}
use Rattle.listing.proofs.Determined.{one_listing}

pub list_one : (input : List ℕ) {out after after' : List ℕ} {r r' : Answer} → Answers (Listed input) out r after
    → Answers (Listed input) out r' after' → (r ≡ r') × (after ≡ after')
list_one input = answers_one (λ g h a b. one_listing {input = input} a b)
