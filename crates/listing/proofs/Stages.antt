-- The stages of the call, each once it is known how it goes: what was found computes the shape. Assumes nothing.
use Rattle.std.proofs.Common.{Err, Option, None, Some}
use Prim.Native.Nat.{ℕ, ◌-◌, ◌≤◌, ◌<◌}
use mathlib.Core.Path.{◌≡◌, sym, ap, subst, ◌∙◌}
use mathlib.Core.List.{List}
use lib.ListN.{length, take, drop}
use Rattle.answers.specs.declared.Refusal.{Refusal}
use Rattle.answers.specs.Answer.{Answer}
use Rattle.answers.specs.Given.{Answers}
use Rattle.answers.proofs.Given.{answers_refusal, answers_by}
use Rattle.listed.specs.Parts.{Parts, PartsListed}
use Rattle.listing.specs.Shape.{lines, through, ending_of, with_ending, with_target, with_upstream, shape}
use Rattle.listing.specs.inner.Finding.{TextOf}
use Rattle.listing.specs.Listed.{ShapeListed, shapeless, shaped, Listed, over, within}
use Rattle.listing.proofs.Lines.{part_rest}

module _ {o : Option Parts} {out after : List ℕ} {r : Answer} where
  pub shape_as : {q : Option Parts} → o ≡ q → Answers (ShapeListed q) out r after → Answers (ShapeListed o) out r after
  shape_as e a = answers_by (λ g h. subst (λ (q : Option Parts). ShapeListed q g) (sym e) h) a

  pub shape_some : {p : Parts} → o ≡ Some p → Answers (PartsListed p) out r after → Answers (ShapeListed o) out r after
  shape_some e a = shape_as e (answers_by (λ g h. shaped h) a)

pub shape_none : {o : Option Parts} (out : List ℕ) → o ≡ None → Answers (ShapeListed o) out (Err (Refusal.NotOfTheForm 0)) out
shape_none out e = shape_as e (answers_refusal (ShapeListed None) out shapeless)

-- the target's text found in what follows the upstream's, and the upstream's in the input
pub target_found : (u t : List ℕ) {n : ℕ} → TextOf t n
    → with_target u (through (lines t)) ≡ with_ending u (take n t) (ending_of (lines (take (length t - n) (drop n t))))
target_found u t {n} f =
    ap (with_target u) f.whole ∙ ap (λ (x : List ℕ). with_ending u (take n t) (ending_of (lines x))) (sym (part_rest t n))

pub upstream_found : (t : List ℕ) {n : ℕ} → TextOf t n → shape t ≡ with_target (take n t) (through (lines (take (length t - n) (drop n t))))
upstream_found t {n} f =
    ap with_upstream f.whole ∙ ap (λ (x : List ℕ). with_target (take n t) (through (lines x))) (sym (part_rest t n))

pub input_over : (input out : List ℕ) → 32768 < length input → Answers (Listed input) out (Err Refusal.OverLimit) out
input_over input out l = answers_refusal (Listed input) out (over l)

pub input_within : {input out after : List ℕ} {r : Answer} → length input ≤ 32768 → Answers (ShapeListed (shape input)) out r after
    → Answers (Listed input) out r after
input_within l a = answers_by (λ g h. within l h) a
