-- The contract of `draw` allows one answer and one final buffer, since what is delivered is determined. Assumes nothing.
use Prim.Native.Nat.{ℕ}
use mathlib.Core.Path.{◌≡◌, refl}
use mathlib.Core.List.{List}
use Rattle.answers.specs.Answer.{Answer}
use Rattle.answers.specs.Given.{Delivers}
use Rattle.answers.proofs.Given.{delivers_one}
use Rattle.drawing.specs.Calls.{drawn}

pub draw_one : (image : List ℕ) {out after after' : List ℕ} {r r' : Answer} → Delivers (drawn image) out r after
    → Delivers (drawn image) out r' after' → (r ≡ r') × (after ≡ after')
draw_one image = delivers_one refl
