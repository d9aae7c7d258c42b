-- What the reader answers is what 01's words say, and nothing else is. Assumes nothing.
use Prim.Native.Nat.{ℕ, ◌≤◌}
use mathlib.Core.Path.{◌≡◌, sym, ap, ◌∙◌, subst}
use mathlib.Core.List.{List}
use mathlib.Core.Logic.{◌⊎◌, inl, inr}
use native.Mathlib.Omega.{arith}
use native.Mathlib.Nat.{zero-add}
use native.Mathlib.Decide.{dec_le}
use lib.ListN.{length}
use Rattle.ground.proofs.Truths.{differ}
use Rattle.answers.specs.declared.Refusal.{Refusal}
use Rattle.texts.specs.Language.{Longest, Judged}
use Rattle.texts.proofs.Language.{longest_one, judged_iff}
use Rattle.models.specs.declared.model.Model.{Model}
use Rattle.models.specs.Told.{Reading, held, accepting, refusing, name_stands, EarliestRepeat, Told, over, departs, repeated, accepted}
use Rattle.models.specs.Model.{Description, Formed}
use Rattle.models.specs.Text.{text_of}
use Rattle.models.specs.Form.{Form}
use Rattle.models.specs.inner.Progress.{formless, on_line, finished}
use Rattle.models.specs.inner.Parts.{TextForm}
use Rattle.models.specs.Reading.{head_at, after_head, reading}
use Rattle.models.proofs.Judgement.{judges_text}
use Rattle.models.proofs.Grammar.{text_to, text_back}
use Rattle.models.proofs.Steps.{reading_over, reading_within}
use Rattle.models.proofs.Reread.{pushed, text_read}
use Rattle.models.proofs.Pushed.{Ends, ends}

-- a text within the limit is of the form, or refused at its longest beginning
abbrev Decided : List ℕ → Type 0
Decided t = Form t ⊎ ((k : ℕ) × Longest Form t k × (Form t → ⊥) × (reading t ≡ formless k))

judged : (t : List ℕ) → length t ≤ 1024 → Decided t
judged t l = by (judged_iff formless TextForm Form text_to text_back t 0 (on_line (head_at t) (after_head t)) (judges_text t))
  where
    by : Judged formless Form t 0 (on_line (head_at t) (after_head t)) → Decided t
    by (inl f) = inl f
    by (inr (k, h, none, e)) = inr (k, h, none, reading_within t l ∙ e ∙ ap formless (zero-add k))

-- a text of the form is accepted, or refused at the earliest repeated name
module _ (d : Description) (h : Formed d) (t : List ℕ) (is : t ≡ text_of d) (l : length t ≤ 1024) where
  read_is : reading t ≡ finished (pushed d (length d.fences))
  read_is = ap reading is ∙ text_read d h (omega (arith, ap length is))

  told_form : Told t (reading t)
  told_form = by (ends d h)
    where
      by : Ends d → Told t (reading t)
      by (inl (e, alone)) = subst (Told t) (sym (read_is ∙ e)) (accepted d l h is alone)
      by (inr (k, earliest, e)) = subst (Told t) (sym (read_is ∙ e)) (repeated d k l h is earliest)

pub told : (t : List ℕ) → Told t (reading t)
told t = by (dec_le (length t) 1024)
  where
    within : length t ≤ 1024 → Decided t → Told t (reading t)
    within l (inl (d, h, is)) = told_form d h t is l
    within l (inr (k, h, none, e)) = subst (Told t) (sym e) (departs l none h)

    by : Dec (length t ≤ 1024) → Told t (reading t)
    by (yes l) = within l (judged t l)
    by (no g) = subst (Told t) (sym (reading_over t (omega arith))) (over (omega arith))

-- there is one earliest repeated name
earliest_one : (d : Description) (j k : ℕ) → EarliestRepeat d j → EarliestRepeat d k → j ≡ k
earliest_one d j k a b = by (dec_le j k) (dec_le k j)
  where
    by : Dec (j ≤ k) → Dec (k ≤ j) → j ≡ k
    by (yes x) (yes y) = omega arith
    by (yes x) (no y) = absurd (b.earliest j (omega arith) a.repeats)
    by (no x) y = absurd (a.earliest k (omega arith) b.repeats)

-- whatever the words allow is what the reader answers
pub told_is : {t : List ℕ} {r : Reading} → Told t r → r ≡ reading t
told_is {t} (over l) = sym (reading_over t l)
told_is {t} (departs {k = k} l none h) = by (judged t l)
  where
    by : Decided t → formless k ≡ reading t
    by (inl f) = absurd (none f)
    by (inr (j, g, no-form, e)) = ap formless (longest_one Form t k j h g) ∙ sym e
told_is {t} (repeated d k l h is earliest) = by (ends d h)
  where
    by : Ends d → refusing (Refusal.FenceNameRepeats (name_stands d k)) ≡ reading t
    by (inl (e, alone)) = absurd (alone k earliest.within earliest.repeats)
    by (inr (j, other, e)) =
        ap (λ (n : ℕ). refusing (Refusal.FenceNameRepeats (name_stands d n))) (earliest_one d k j earliest other) ∙ sym (read_is d h t is l ∙ e)
told_is {t} (accepted d l h is alone) = by (ends d h)
  where
    by : Ends d → accepting (held d) ≡ reading t
    by (inl (e, same)) = sym (read_is d h t is l ∙ e)
    by (inr (j, other, e)) = absurd (alone j other.within other.repeats)

-- an answer that equals the reader's is told by the words
pub meets : (t : List ℕ) {r : Reading} → r ≡ reading t → (r ≡ reading t) × Told t r
meets t e = (e, subst (Told t) (sym e) (told t))

-- a text that is accepted is that of a description of the form, whose model is read
pub accepted_told : {t : List ℕ} {r : Reading} {m : Model} → Told t r → r ≡ accepting m
    → (d : Description) × Formed d × (t ≡ text_of d) × (held d ≡ m)
accepted_told (over l) e = differ (cc)
accepted_told (departs l n k) e = differ (cc)
accepted_told (repeated d k l f t s) e = differ (cc)
accepted_told (accepted d l f t s) e = (d, f, t, cc)
