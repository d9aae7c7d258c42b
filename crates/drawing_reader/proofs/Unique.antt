-- The contract of the public function allows one answer and one final buffer: a text is over the limit, or departs from every drawing at one
-- longest beginning, or is the drawing of machines that have one image. Assumes nothing.
use Prim.Native.Nat.{ℕ}
use mathlib.Core.Path.{◌≡◌, refl, sym, ap, ◌∙◌}
use mathlib.Core.List.{List}
use native.Mathlib.Omega.{arith}
use Rattle.answers.specs.declared.Refusal.{Refusal}
use Rattle.answers.specs.Answer.{Answer}
use Rattle.answers.specs.Given.{Given, gives, refuses, Answers}
use Rattle.answers.proofs.Given.{answers_one}
use Rattle.texts.proofs.Language.{longest_one}
use Rattle.drawing_reader.specs.Undrawing.{Drawing, Undrawn, over, departs, undrawn}
use Rattle.drawing_reader.proofs.Theorems.{drawing_one}

pub undrawn_one : (t : List ℕ) {g g' : Given} → Undrawn t g → Undrawn t g' → g ≡ g'
undrawn_one t (over l) (over m) = refl
undrawn_one t (over l) (departs m none k) = absurd (omega arith)
undrawn_one t (over l) (undrawn m can e) = absurd (omega arith)
undrawn_one t (departs m none k) (over l) = absurd (omega arith)
undrawn_one t (departs {k = j} m none h) (departs {k = k} m' none' h') =
    ap (λ (i : ℕ). refuses (Refusal.NotOfTheForm i)) (longest_one Drawing t j k h h')
undrawn_one t (departs m none k) (undrawn {h = h} {rows = rows} m' can e) = absurd (none (h, rows, can, e))
undrawn_one t (undrawn m can e) (over l) = absurd (omega arith)
undrawn_one t (undrawn {h = h} {rows = rows} m can e) (departs m' none k) = absurd (none (h, rows, can, e))
undrawn_one t (undrawn {h = h} {rows = rows} m can e) (undrawn {h = h'} {rows = rows'} m' can' e') =
    ap (λ (image : List ℕ). gives image 0 0) (drawing_one h h' rows rows' can can' (sym e ∙ e'))

pub undraw_one : (text out : List ℕ) {r r' : Answer} {after after' : List ℕ} → Answers (Undrawn text) out r after
    → Answers (Undrawn text) out r' after'
    → (r ≡ r') × (after ≡ after')
undraw_one text out = answers_one (λ g g' p q. undrawn_one text p q)
