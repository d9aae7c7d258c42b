-- A name up to its first zero. Assumes nothing.
use Prim.Native.Nat.{ℕ, suc, ◌+◌, ◌≤◌}
use mathlib.Core.Path.{◌≡◌, refl, sym, ap, ◌∙◌}
use mathlib.Core.Bool.{Bool, true, false, not, cond}
use mathlib.Core.List.{List, [], ◌∷◌}
use native.Mathlib.Omega.{arith}
use borrow.Author.Tests.{ltb-false}
use lib.Dec.{eqb, ltb}
use lib.ListN.{length, take}
use Rattle.std.proofs.Common.{Some, None}
use Rattle.std.specs.List.{position, position_or_len}
use Rattle.std.specs.Option.{unwrap_or}
use Rattle.std.proofs.lemmas.List.Sums.{prefix_len-le-length}
use Rattle.std.proofs.lemmas.List.Recursion.{is_position_or_len}
use Rattle.printing.specs.Name.{unfilled}

-- the library's `position` of the first zero, and the length where there is none
abbrev zero : ℕ → Bool
zero b = eqb b 0

pub first_zero : (l : List ℕ) → unwrap_or (position zero l) (length l) ≡ length (unfilled l)
unfolding unfilled
first_zero l =
    by (ltb (position_or_len zero l) (length l)) refl
    ∙ sym (is_position_or_len (λ (m : List ℕ). length (unfilled m)) zero refl (λ x xs. one (zero x) x xs) l)
  where
    one : (q : Bool) (x : ℕ) (xs : List ℕ) → length (cond q [] (x ∷ unfilled xs)) ≡ cond q 0 (1 + length (unfilled xs))
    one true x xs = refl
    one false x xs = omega arith

    by : (q : Bool) → ltb (position_or_len zero l) (length l) ≡ q
        → unwrap_or (cond q (Some (position_or_len zero l)) None) (length l) ≡ position_or_len zero l
    by true e = refl
    by false e = omega (arith, prefix_len-le-length (λ (b : ℕ). not (zero b)) l, ltb-false _ _ e)

pub unfilled_front : (l : List ℕ) → take (length (unfilled l)) l ≡ unfilled l
unfolding unfilled
unfilled_front [] = refl
unfilled_front (b ∷ l) = by (eqb b 0) (unfilled_front l)
  where
    by : (q : Bool) → take (length (unfilled l)) l ≡ unfilled l → take (length (cond q [] (b ∷ unfilled l))) (b ∷ l) ≡ cond q [] (b ∷ unfilled l)
    by true e = refl
    by false e = ap (λ (m : List ℕ). b ∷ m) e

pub unfilled_short : (l : List ℕ) → length (unfilled l) ≤ length l
unfolding unfilled
unfilled_short [] = omega arith
unfilled_short (b ∷ l) = by (eqb b 0) (unfilled_short l)
  where
    by : (q : Bool) → length (unfilled l) ≤ length l → length (cond q [] (b ∷ unfilled l)) ≤ suc (length l)
    by true h = omega arith
    by false h = omega arith
