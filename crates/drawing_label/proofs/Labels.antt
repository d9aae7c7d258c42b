-- The label's parts: each is found once and can be completed, so what is told behind it decides; and what the texts of labels are.
-- Assumes nothing.
use Prim.Native.Nat.{ℕ, ◌≤◌}
use mathlib.Core.Path.{◌≡◌, refl, sym, ap, ap₂, subst, ◌∙◌}
use mathlib.Core.List.{List, ◌++◌, append_assoc}
use mathlib.Core.Logic.{inl, inr}
use native.Mathlib.Omega.{arith}
use native.Mathlib.Decide.{ℕ_discrete}
use native.Mathlib.Nat.{add-zero}
use lib.ListN.{take, drop, get_or, take-append-drop}
use lib.Seq.{get_or-drop}
use Rattle.ground.specs.Bytes.{bytes}
use Rattle.texts.specs.Language.{Telling, Any, Seq, Some, Unique}
use Rattle.texts.specs.Telling.{Then, Through, Word, Named, Numbered, Taken, took, Finds, finds}
use Rattle.texts.proofs.Language.{seq_join}
use Rattle.texts.proofs.Telling.{unique_then, some_then, unique_through, some_through, unique_either, some_either, unique_word, some_word}
use Rattle.texts.proofs.Telling.{unique_named, some_named, either_first, either_second}
use Rattle.texts.proofs.NumberPart.{unique_numbered, some_numbered}
use Rattle.printing.specs.Decimal.{decimal}
use Rattle.image.specs.declared.machine.Header.{Header}
use Rattle.drawing.specs.Drawing.{way_word, label_line}
use Rattle.drawing_label.specs.Label.{Label, WayPart, LabelEnd, FromTargets, FromUps, FromWay, FromTarget, FromUpstream, LabelPart}
use Rattle.drawing_label.specs.Label.{LabelFormed, targets_text, ups_text, way_text, names_text, label_text, label_for}

-- the two words of the way, and how they begin
abbrev pub Sparing : Telling ℕ
Sparing = Through (λ _. 0) (Word (bytes "sparing "))

abbrev pub Full : Telling ℕ
Full = Through (λ _. 1) (Word (bytes "full "))

pub sparing_begins : (n : ℕ) (x : List ℕ) → Sparing n x → get_or x 0 0 ≡ 115
sparing_begins n x (_, is, e) = ap (λ (l : List ℕ). get_or l 0 0) e

pub full_begins : (n : ℕ) (x : List ℕ) → Full n x → get_or x 0 0 ≡ 102
full_begins n x (_, is, e) = ap (λ (l : List ℕ). get_or l 0 0) e

pub unique_way : Unique WayPart
unique_way =
    unique_either Sparing Full (λ b. b ≡ 115) (λ b. b ≡ 102) (λ e. omega arith) (λ e. omega arith) (λ b e f. omega arith) sparing_begins full_begins
    (unique_through (λ _. 0) (Word (bytes "sparing ")) (unique_word (bytes "sparing ")))
    (unique_through (λ _. 1) (Word (bytes "full ")) (unique_word (bytes "full ")))

some_way_part : Some (Any WayPart)
some_way_part = some_either Sparing Full (some_through (λ _. 0) (Word (bytes "sparing ")) (some_word (bytes "sparing ")))

-- the first byte settles which of them must stand at a place
module _ (t : List ℕ) (at : ℕ) where
  first_is : get_or (drop at t) 0 0 ≡ get_or t at 0
  first_is = get_or-drop at t 0 0 ∙ ap (λ (i : ℕ). get_or t i 0) (add-zero at)

  pub sparing_here : get_or t at 0 ≡ 115 → {r : Taken ℕ} → Finds Sparing t at r → Finds WayPart t at r
  sparing_here is h = either_first Sparing Full t at (λ b. b ≡ 102) (λ e. omega arith) full_begins (λ e. omega (arith, first_is)) h

  pub full_here : (get_or t at 0 ≡ 115 → ⊥) → {r : Taken ℕ} → Finds Full t at r → Finds WayPart t at r
  full_here other h = either_second Sparing Full t at (λ b. b ≡ 115) (λ e. omega arith) sparing_begins (λ e. other (sym first_is ∙ e)) h

-- texts by which a label can be completed, from each of its parts on
pub some_end : (upstream target : List ℕ) (way ups targets : ℕ) → Some (Any (LabelEnd upstream target way ups targets))
some_end upstream target way ups targets = some_through _ (Word (bytes ";\n")) (some_word (bytes ";\n"))

pub some_targets : (upstream target : List ℕ) (way ups : ℕ) → Some (Any (FromTargets upstream target way ups))
some_targets upstream target way ups =
    some_then (Numbered 17 34) (LabelEnd upstream target way ups) (some_numbered 17 34 (omega arith)) (some_end upstream target way ups)

pub some_ups : (upstream target : List ℕ) (way : ℕ) → Some (Any (FromUps upstream target way))
some_ups upstream target way =
    some_then (Numbered 17 32) (FromTargets upstream target way) (some_numbered 17 32 (omega arith)) (some_targets upstream target way)

pub some_way : (upstream target : List ℕ) → Some (Any (FromWay upstream target))
some_way upstream target = some_then WayPart (FromUps upstream target) some_way_part (some_ups upstream target)

pub some_target : (upstream : List ℕ) → Some (Any (FromTarget upstream))
some_target upstream = some_then (Named 32) (FromWay upstream) (some_named 32) (some_way upstream)

pub some_upstream : Some (Any FromUpstream)
some_upstream = some_then (Named 32) FromTarget (some_named 32) some_target

-- of a text at most one beginning is a label, and it tells one
pub unique_blank : Unique (Named 32)
unique_blank = unique_named 32 (λ no. no)

pub unique_ups : Unique (Numbered 17 32)
unique_ups = unique_numbered 17 32 (λ no. no)

pub unique_targets : Unique (Numbered 17 34)
unique_targets = unique_numbered 17 34 (λ no. no)

pub unique_label : Unique LabelPart
unique_label =
    unique_then (Word (bytes "digraph shim {\nlabel=\"")) (λ _. FromUpstream) (unique_word (bytes "digraph shim {\nlabel=\""))
    λ _. unique_then (Named 32) FromTarget unique_blank
    λ upstream. unique_then (Named 32) (FromWay upstream) unique_blank
    λ target. unique_then WayPart (FromUps upstream target) unique_way
    λ way. unique_then (Numbered 17 32) (FromTargets upstream target way) unique_ups
    λ ups. unique_then (Numbered 17 34) (LabelEnd upstream target way ups) unique_targets
    λ targets. unique_through _ (Word (bytes ";\n")) (unique_word (bytes ";\n"))

-- what is taken apart and put together: a part with the bytes after it, and the rest
glued : (x : List ℕ) (m : ℕ) (a after : List ℕ) {b : List ℕ} → take m x ≡ a ++ after → drop m x ≡ b → x ≡ a ++ (after ++ b)
glued x m a after {b} e f = sym (take-append-drop m x) ∙ ap₂ (λ (y z : List ℕ). y ++ z) e f ∙ append_assoc a after b

joined : {A B : Type 0} (L : Telling A) (M : A → Telling B) (v : A) {l : B} (a after b : List ℕ) → L v (a ++ after) → M v l b
    → Then L M l (a ++ (after ++ b))
joined L M v {l} a after b p q = (v, subst (Seq (L v) (M v l)) (append_assoc a after b) (seq_join (L v) (M v l) (a ++ after) b p q))

way_told : (way : ℕ) (x : List ℕ) → WayPart way x → (way ≤ 1) × (x ≡ way_word way ++ bytes " ")
way_told way x (inl (_, is, e)) = (omega arith, e ∙ ap (λ (w : ℕ). way_word w ++ bytes " ") is)
way_told way x (inr (_, is, e)) = (omega arith, e ∙ ap (λ (w : ℕ). way_word w ++ bytes " ") is)

way_tells : (way : ℕ) → way ≤ 1 → WayPart way (way_word way ++ bytes " ")
way_tells way l = by (ℕ_discrete way 0)
  where
    by : Dec (way ≡ 0) → WayPart way (way_word way ++ bytes " ")
    by (yes e) = subst (λ (w : ℕ). WayPart w (way_word w ++ bytes " ")) (sym e) (inl (tt, refl, refl))
    by (no n) =
        let e : 1 ≡ way = omega arith in
        subst (λ (w : ℕ). WayPart w (way_word w ++ bytes " ")) e (inr (tt, refl, refl))

-- the text of each part with all that is behind it, and what it tells
abbrev labelled : List ℕ → List ℕ → ℕ → ℕ → ℕ → Label
labelled upstream target way ups targets = record { upstream = upstream; target = target; way = way; ups = ups; targets = targets }

pub label_text_lem : (l : Label) (x : List ℕ) → LabelPart l x → LabelFormed l × (x ≡ label_text l)
label_text_lem l x (
  _,
  (
    a,
    la,
    word,
    (
      upstream,
      (
        b,
        lb,
        (upstream-formed, first),
        (
          target,
          (
            c,
            lc,
            (target-formed, second),
            (
              way,
              (
                d,
                ld,
                way-is,
                (
                  ups,
                  (
                    e,
                    le,
                    (ups_few, third),
                    (targets, (f, lf, (targets-few, fourth), (_, is, end))),
                  ),
                ),
              ),
            ),
          ),
        ),
      ),
    ),
  ),
) =
    let x₁ : List ℕ = drop a x in
    let x₂ : List ℕ = drop b x₁ in
    let x₃ : List ℕ = drop c x₂ in
    let x₄ : List ℕ = drop d x₃ in
    let w = way_told way (take d x₃) way-is in
    let formed : LabelFormed (labelled upstream target way ups targets) = record {
      upstream = upstream-formed;
      target = target-formed;
      way = w.0;
      ups = omega arith;
      targets = omega arith;
    } in
    let text : x ≡ label_text (labelled upstream target way ups targets) =
    glued x a (bytes "digraph shim {\n") (bytes "label=\"") word
    (glued x₁ b upstream (bytes " ") first
    (glued x₂ c target (bytes " ") second
    (glued x₃ d (way_word way) (bytes " ") w.1
    (glued x₄ e (decimal ups) (bytes " ") third
    (glued (drop e x₄) f (decimal targets) (bytes "\"") fourth end))))) in
    (subst LabelFormed is formed, text ∙ ap label_text is)

module _ (upstream target : List ℕ) (way ups targets : ℕ) where
  tells : LabelFormed (labelled upstream target way ups targets)
      → LabelPart (labelled upstream target way ups targets) (label_text (labelled upstream target way ups targets))
  tells f =
      joined (Word (bytes "digraph shim {\nlabel=\"")) (λ _. FromUpstream) tt (bytes "digraph shim {\n") (bytes "label=\"")
      (names_text upstream target way ups targets) refl
      (joined (Named 32) FromTarget upstream upstream (bytes " ") (target ++ (bytes " " ++ way_text way ups targets)) (f.upstream, refl)
      (joined (Named 32) (FromWay upstream) target target (bytes " ") (way_text way ups targets) (f.target, refl)
      (joined WayPart (FromUps upstream target) way (way_word way) (bytes " ") (ups_text ups targets) (way_tells way f.way)
      (joined (Numbered 17 32) (FromTargets upstream target way) ups (decimal ups) (bytes " ") (targets_text targets) (omega (arith, f.ups), refl)
      (joined (Numbered 17 34) (LabelEnd upstream target way ups) targets (decimal targets) (bytes "\"") (bytes ";\n")
      (omega (arith, f.targets), refl) (tt, refl, refl))))))

pub told_formed : {t : List ℕ} {at p : ℕ} {l : Label} → Finds LabelPart t at (took p l) → LabelFormed l
told_formed (finds {a = l} e ln x) = (label_text_lem l _ x).0

pub text_label : (l : Label) → LabelFormed l → LabelPart l (label_text l)
text_label l = tells l.upstream l.target l.way l.ups l.targets

-- a drawing's first two lines are those of its header's label
pub label_line_lem : (h : Header) → label_text (label_for h) ≡ bytes "digraph shim {\n" ++ label_line h
label_line_lem h = refl
