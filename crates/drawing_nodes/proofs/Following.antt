-- Two words one behind another are followed by following the first and then the second. Assumes nothing.
use Rattle.std.proofs.Common.{Ok, Err}
use Prim.Native.Nat.{ℕ, suc, ◌+◌}
use mathlib.Core.Path.{◌≡◌, refl, sym, ap, ◌∙◌}
use mathlib.Core.Bool.{Bool, true, false, cond}
use mathlib.Core.List.{List, [], ◌∷◌, ◌++◌}
use native.Mathlib.Omega.{arith}
use native.Mathlib.Nat.{add_assoc}
use lib.ListN.{drop}
use lib.Seq.{drop-drop}
use Rattle.texts.specs.Step.{Step}
use Rattle.texts.specs.Language.{shift, on_step}
use Rattle.texts.specs.Pattern.{fits, further, follow, follow_at}

-- the second word behind the first, of what is left
further_goes : (b : List ℕ) (x : ℕ) (s : List ℕ) (r : Step)
    → further (on_step Err r (λ k. shift k (follow b (drop k s)))) ≡ on_step Err (further r) (λ k. shift k (follow b (drop k (x ∷ s))))
further_goes b x s (Err k) = refl
further_goes b x s (Ok k) = one (follow b (drop k s))
  where
    one : (r : Step) → further (shift k r) ≡ shift (suc k) r
    one (Ok j) = ap Ok (omega arith)
    one (Err j) = ap Err (omega arith)

follow_goes : (a b s : List ℕ) → follow (a ++ b) s ≡ on_step Err (follow a s) (λ k. shift k (follow b (drop k s)))
unfolding follow
follow_goes [] b s = none (follow b s)
  where
    none : (r : Step) → r ≡ shift 0 r
    none (Ok j) = ap Ok (omega arith)
    none (Err j) = ap Err (omega arith)
follow_goes (p ∷ a) b [] = refl
follow_goes (p ∷ a) b (x ∷ s) = by (fits p x) (follow_goes a b s)
  where
    by : (q : Bool) → follow (a ++ b) s ≡ on_step Err (follow a s) (λ k. shift k (follow b (drop k s)))
        → cond q (further (follow (a ++ b) s)) (Err 0)
        ≡ on_step Err (cond q (further (follow a s)) (Err 0)) (λ k. shift k (follow b (drop k (x ∷ s))))
    by true e = ap further e ∙ further_goes b x s (follow a s)
    by false e = refl

-- the same at a place of the whole text
pub follow_then : (a b t : List ℕ) (at : ℕ) → follow_at (a ++ b) t at ≡ on_step Err (follow_at a t at) (follow_at b t)
follow_then a b t at = ap (shift at) (follow_goes a b (drop at t)) ∙ by (follow a (drop at t))
  where
    onward : (k : ℕ) (r : Step) → shift at (shift k r) ≡ shift (at + k) r
    onward k (Ok j) = ap Ok (sym (add_assoc at k j))
    onward k (Err j) = ap Err (sym (add_assoc at k j))

    by : (r : Step)
        → shift at (on_step Err r (λ k. shift k (follow b (drop k (drop at t))))) ≡ on_step Err (shift at r) (follow_at b t)
    by (Err k) = refl
    by (Ok k) =
        onward k (follow b (drop k (drop at t))) ∙ ap (λ (s : List ℕ). shift (at + k) (follow b s)) (drop-drop k at t)
