-- The contract of `generate` allows one answer and one final buffer. Assumes nothing.
use Prim.Native.Nat.{ℕ}
use mathlib.Core.Path.{◌≡◌}
use mathlib.Core.List.{List}
use Rattle.answers.specs.Answer.{Answer}
use Rattle.answers.specs.Given.{Answers}
use Rattle.answers.proofs.Given.{answers_one}
use Rattle.generation.specs.Generating.{ImageGiven}
use Rattle.generation.proofs.Determined.{one_given}

pub generate_one : (way : ℕ) (upstream target : List ℕ) {out after after' : List ℕ} {r r' : Answer}
    → Answers (ImageGiven way upstream target) out r after → Answers (ImageGiven way upstream target) out r' after'
    → (r ≡ r') × (after ≡ after')
generate_one way upstream target = answers_one (one_given way upstream target)
