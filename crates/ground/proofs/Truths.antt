-- Truth values: what follows from two that cannot both be, and the two ways to say that a test passes. Assumes nothing.
use Prim.Native.Nat.{ℕ}
use mathlib.Core.Path.{◌≡◌, refl, sym, subst, ◌∙◌}
use mathlib.Core.Bool.{Bool, true, false}
use native.Mathlib.Omega.{arith}
use lib.Dec.{T}

-- from two constructors told equal, which `cc` turns into 0 ≡ 1, everything follows
pub differ : {A : Type 0} → ◌≡◌ {A = ℕ} 0 1 → A
differ e = absurd (omega arith)

pub is_true : (q : Bool) → T q → q ≡ true
is_true true t = refl
is_true false t = absurd t

pub holds : (q : Bool) → q ≡ true → T q
holds q e = subst T (sym e) tt

-- no test both passes and fails
pub not_both : {a : Bool} → a ≡ true → a ≡ false → ⊥
not_both e f = subst T (sym e ∙ f) tt

pub true_false : {A : Type 0} → true ≡ false → A
true_false e = differ (cc)
