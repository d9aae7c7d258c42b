-- What the comparison of two texts says of them. Assumes nothing.
use Prim.Native.Nat.{ℕ}
use mathlib.Core.Path.{◌≡◌, refl, ap, ap₂, ◌∙◌}
use mathlib.Core.Bool.{Bool, true, false, ◌&&◌}
use mathlib.Core.List.{List, [], ◌∷◌}
use borrow.Author.Tests.{eqb-true, eq-eqb}
use lib.Dec.{eqb}
use Rattle.ground.specs.Bytes.{same_bytes}
use Rattle.ground.proofs.Truths.{differ}

-- texts that are compared equal are equal, and every text is the same as itself
pub same_is : (a b : List ℕ) → same_bytes a b ≡ true → a ≡ b
same_is [] [] e = refl
same_is [] (y ∷ b) e = differ (cc)
same_is (x ∷ a) [] e = differ (cc)
same_is (x ∷ a) (y ∷ b) e = by (eqb x y) refl e (same_is a b)
  where
    by : (q : Bool) → eqb x y ≡ q → q && same_bytes a b ≡ true → (same_bytes a b ≡ true → a ≡ b) → x ∷ a ≡ y ∷ b
    by true h e rest = ap₂ (λ (z : ℕ) (l : List ℕ). z ∷ l) (eqb-true x y h) (rest e)
    by false h e rest = differ (cc)

pub same_own : (a : List ℕ) → same_bytes a a ≡ true
same_own [] = refl
same_own (x ∷ a) = ap (λ (q : Bool). q && same_bytes a a) (eq-eqb x x refl) ∙ same_own a
