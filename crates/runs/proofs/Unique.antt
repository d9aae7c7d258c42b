-- The contracts of `run` and `run_models` allow one answer and one final buffer each: what is delivered is determined. Assumes nothing.
use Prim.Native.Nat.{ℕ}
use mathlib.Core.Path.{◌≡◌, refl}
use mathlib.Core.List.{List}
use Rattle.answers.specs.Answer.{Answer}
use Rattle.answers.specs.Given.{Delivers}
use Rattle.answers.proofs.Given.{delivers_one}
use Rattle.shims.specs.declared.Models.{Models}
use Rattle.runs.specs.Call.{run_given, outcome}

pub run_one : (way : ℕ) (upstream target stream : List ℕ) {out after after' : List ℕ} {r r' : Answer}
    → Delivers (outcome way upstream target stream) out r after → Delivers (outcome way upstream target stream) out r' after'
    → (r ≡ r') × (after ≡ after')
run_one way upstream target stream = delivers_one refl

pub run_models_one : (models : Models) (stream : List ℕ) {out after after' : List ℕ} {r r' : Answer}
    → Delivers (run_given models stream) out r after → Delivers (run_given models stream) out r' after' → (r ≡ r') × (after ≡ after')
run_models_one models stream = delivers_one refl
