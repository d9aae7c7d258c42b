-- The contract of `show` allows one answer: one thing alone is listed of an input, and the answer is what a buffer of that size makes of it. Assumes
-- nothing.
use Prim.Native.Nat.{ℕ}
use mathlib.Core.Path.{◌≡◌, sym, ap, ◌∙◌}
use mathlib.Core.List.{List}
use Rattle.answers.specs.Answer.{Answer}
use Rattle.answers.specs.Given.{Given, answer_of}
use Rattle.listing.proofs.Determined.{one_listing}
use Rattle.show.specs.Shown.{Shown}

pub show_one : (input : List ℕ) {r r' : Answer} → Shown input r → Shown input r' → r ≡ r'
show_one input p q = p.answer ∙ ap (λ (g : Given). answer_of g 73728) (one_listing p.listed q.listed) ∙ sym q.answer
