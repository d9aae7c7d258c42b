-- The contract of `run` allows one answer and one final buffer. Assumes nothing.
use Prim.Native.Nat.{ℕ}
use mathlib.Core.Path.{◌≡◌, refl}
use mathlib.Core.List.{List}
use Rattle.answers.specs.Answer.{Answer}
use Rattle.answers.specs.Given.{Delivers}
use Rattle.answers.proofs.Given.{delivers_one}
use Rattle.image_runs.specs.Run.{run_over}

pub run_one : (image : List ℕ) (start : ℕ) (stream : List ℕ) {out after after' : List ℕ} {r r' : Answer}
    → Delivers (run_over image start stream) out r after → Delivers (run_over image start stream) out r' after' → (r ≡ r') × (after ≡ after')
run_one image start stream = delivers_one refl
