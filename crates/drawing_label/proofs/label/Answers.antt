-- `label` meets its contract: a name is what stands in its field before the zeros. Assumes nothing.
use Rattle.std.proofs.Common.{Result, Ok, Err}
use Prim.Native.Nat.{ℕ}
use mathlib.Core.Path.{◌≡◌, sym, ap, ap₂, subst, ◌∙◌}
use mathlib.Core.List.{List}
use borrow.Author.Rules.{rules}
use Rattle.texts.specs.Telling.{took, Finds}
use Rattle.printing.specs.Name.{unfilled}
use Rattle.drawing_label.specs.declared.Places.{Places}
use Rattle.drawing_label.specs.Label.{Label, LabelPart, name_from, field, places_told, places_taken, Fielded}
use Rattle.drawing_label.proofs.Fields.{unfilled_from}
use Rattle.drawing_label.proofs.Labels.{told_formed}
use Rattle.drawing_label.proofs.label.Goals as goal

-- the label by its names' places, and by its names in their fields
with_names : Places → List ℕ → List ℕ → Label
with_names l upstream target = record { upstream = upstream; target = target; way = l.way; ups = l.ups; targets = l.targets }

names-told : (t : List ℕ) (l : Places) {first second : List ℕ} → first ≡ field (name_from t l.upstream) → second ≡ field (name_from t l.target)
    → places_told t l ≡ with_names l (unfilled first) (unfilled second)
unfolding with_names
names-told t l e f =
    ap₂ (with_names l) (sym (ap unfilled e ∙ unfilled_from t l.upstream)) (sym (ap unfilled f ∙ unfilled_from t l.target))

-- the fields hold names and zeros
fielded : (t : List ℕ) (i : ℕ) {x : List ℕ} → x ≡ field (name_from t i) → Fielded x
fielded t i e = ap (λ (y : List ℕ). field (unfilled y)) e ∙ ap field (unfilled_from t i) ∙ sym e

pub returns-in_err-l : goal.returns-in_err-l
returns-in_err-l c =
    let t : List ℕ = c.args.text.now in
    let told = subst (λ (r : Result Places ℕ). Finds LabelPart t 0 (places_taken t r)) {y = Err c.in_err-l.field-0.0} (search rules) c.label_places.ensures in
    search (rules, told)

pub returns : goal.returns
unfolding with_names
returns c =
    let l = c.in_ok-l.l in
    let t : List ℕ = c.args.text.now in
    let told = subst (λ (r : Result Places ℕ). Finds LabelPart t 0 (places_taken t r)) {y = Ok l} (search rules) c.label_places.ensures in
    let formed = told_formed told in (
      subst (λ (x : Label). Finds LabelPart t 0 (took l.next x)) (names-told t l c.name_field.ensures c.name_field-2.ensures) told,
      record {
        way = formed.way;
        ups = formed.ups;
        targets = formed.targets;
        upstream = fielded t l.upstream c.name_field.ensures;
        target = fielded t l.target c.name_field-2.ensures;
      },
    )
