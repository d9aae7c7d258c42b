-- The contract of the public function allows one result: a text has one label in front or departs from every label at one place, and a name fills
-- one field. Assumes nothing.
use Rattle.std.proofs.Common.{Result, Ok, Err, IfOk}
use Prim.Native.Nat.{ℕ}
use mathlib.Core.Path.{◌≡◌, sym, ap, ap₂, ◌∙◌}
use mathlib.Core.List.{List}
use Rattle.texts.specs.Telling.{Finds}
use Rattle.texts.proofs.Telling.{finds_one}
use Rattle.drawing_label.specs.declared.LabelRead.{LabelRead}
use Rattle.drawing_label.specs.Label.{Label, LabelPart, field, label_of, label_taken, Fits}
use Rattle.drawing_label.proofs.Labels.{unique_label}

-- a label and the place behind it, as they are held
held : Label → ℕ → LabelRead
held l next = record { upstream = field l.upstream; target = field l.target; way = l.way; ups = l.ups; targets = l.targets; next = next }

as_held : (r : LabelRead) → Fits r → r ≡ held (label_of r) r.next
unfolding held
as_held r f =
    ap₂ (λ (u v : List ℕ). record { upstream = u; target = v; way = r.way; ups = r.ups; targets = r.targets; next = r.next })
    (sym f.upstream) (sym f.target)

same : (r r' : Result LabelRead ℕ) → label_taken r ≡ label_taken r' → IfOk r Fits → IfOk r' Fits → r ≡ r'
same (Ok l) (Ok l') e f g =
    let here : l.next ≡ l'.next = cc in
    let told : label_of l ≡ label_of l' = cc in
    ap Ok (as_held l f ∙ ap₂ held told here ∙ sym (as_held l' g))
same (Ok l) (Err q) e f g = cc
same (Err p) (Ok l) e f g = cc
same (Err p) (Err q) e f g = cc

pub label_one : (text : List ℕ) {r r' : Result LabelRead ℕ} → Finds LabelPart text 0 (label_taken r) × IfOk r Fits
    → Finds LabelPart text 0 (label_taken r') × IfOk r' Fits → r ≡ r'
label_one text {r} {r'} (a, f) (b, g) = same r r' (finds_one LabelPart unique_label text 0 a b) f g
