-- What following a word, a name or a number has answered is what reading it finds. Assumes nothing.
use Rattle.std.proofs.Common.{Ok, Err}
use Prim.Native.Nat.{ℕ, ◌≤◌}
use mathlib.Core.Path.{◌≡◌, sym, ◌∙◌, subst}
use mathlib.Core.List.{List}
use lib.Dec.{T}
use Rattle.ground.specs.Bytes.{name_byte}
use Rattle.texts.specs.Step.{Step, Part}
use Rattle.texts.specs.Pattern.{is_word, follow_at}
use Rattle.texts.specs.NamePart.{name_at}
use Rattle.texts.specs.NumberPart.{number_at}
use Rattle.texts.specs.Telling.{Word, Named, Numbered, word_taken, name_taken, part_taken, took, stopped, Finds}
use Rattle.texts.proofs.Telling.{finds_word, finds_name}
use Rattle.texts.proofs.NumberPart.{finds_number}
use Rattle.drawing_label.specs.Label.{name_from}

module _ (w t : List ℕ) (at : ℕ) (word : T (is_word w)) {r : Step} {p : ℕ} (e : r ≡ follow_at w t at) where
  pub word_found : r ≡ Ok p → Finds (Word w) t at (took p tt)
  word_found f = subst (λ (s : Step). Finds (Word w) t at (word_taken s)) (sym e ∙ f) (finds_word w t at word)

  pub word_stuck : r ≡ Err p → Finds (Word w) t at (stopped p)
  word_stuck f = subst (λ (s : Step). Finds (Word w) t at (word_taken s)) (sym e ∙ f) (finds_word w t at word)

module _ (b : ℕ) (not-name : T (name_byte b) → ⊥) (t : List ℕ) (at : ℕ) {r : Step} {p : ℕ} (e : r ≡ name_at b t at) where
  pub name_found : r ≡ Ok p → Finds (Named b) t at (took p (name_from t at))
  name_found f = subst (λ (s : Step). Finds (Named b) t at (name_taken t at s)) (sym e ∙ f) (finds_name b not-name t at)

  pub name_stuck : r ≡ Err p → Finds (Named b) t at (stopped p)
  name_stuck f = subst (λ (s : Step). Finds (Named b) t at (name_taken t at s)) (sym e ∙ f) (finds_name b not-name t at)

module _ (bound b : ℕ) (some : 1 ≤ bound) (t : List ℕ) (at : ℕ) {r : Part} {p : ℕ} (e : r ≡ number_at bound b t at) where
  pub number_found : {n : ℕ} → r ≡ Ok (p, n) → Finds (Numbered bound b) t at (took p n)
  number_found f = subst (λ (s : Part). Finds (Numbered bound b) t at (part_taken s)) (sym e ∙ f) (finds_number bound b some t at)

  pub number_stuck : r ≡ Err p → Finds (Numbered bound b) t at (stopped p)
  number_stuck f = subst (λ (s : Part). Finds (Numbered bound b) t at (part_taken s)) (sym e ∙ f) (finds_number bound b some t at)
