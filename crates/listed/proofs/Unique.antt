-- The contracts of `list_parts` and of `refusal_line` allow one answer and one final buffer. Assumes nothing.
use Prim.Native.Nat.{ℕ}
use mathlib.Core.Path.{◌≡◌, refl}
use mathlib.Core.List.{List}
use Rattle.answers.specs.declared.Refusal.{Refusal}
use Rattle.answers.specs.Answer.{Answer}
use Rattle.answers.specs.Given.{gives, Answers, Delivers}
use Rattle.answers.proofs.Given.{delivers_one, answers_one}
use Rattle.rule.specs.declared.way.Way.{Way}
use Rattle.listed.specs.Printed.{refusal_line}
use Rattle.listed.specs.Parts.{Parts, PartsListed}
use Rattle.listed.proofs.Determined.{parts_one}

pub list_parts_one : (way : Way) (upstream target stream : List ℕ) {out after after' : List ℕ} {r r' : Answer}
    → let p : Parts = record { upstream = upstream; target = target; way = way; stream = stream } in
    Answers (PartsListed p) out r after → Answers (PartsListed p) out r' after' → (r ≡ r') × (after ≡ after')
list_parts_one way upstream target stream = answers_one (λ g h a b. parts_one _ a b)

pub refusal_line_one : (why : Refusal) {out after after' : List ℕ} {r r' : Answer} → Delivers (gives (refusal_line why) 0 0) out r after
    → Delivers (gives (refusal_line why) 0 0) out r' after' → (r ≡ r') × (after ≡ after')
refusal_line_one why p q = delivers_one refl p q
