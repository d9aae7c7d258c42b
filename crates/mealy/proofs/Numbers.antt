-- Cases of numbers: of two, of one that is not the last, and of the first that has not a property. Assumes nothing.
use Prim.Native.Nat.{ℕ, ◌+◌, ◌<◌}
use mathlib.Core.Path.{◌≡◌}
use mathlib.Core.Logic.{◌⊎◌, inl, inr, ⊎_elim}
use native.Mathlib.Omega.{arith}
use native.Mathlib.Decide.{dec_lt}

-- of two numbers
pub order : (i j : ℕ) → (i < j) ⊎ ((i ≡ j) ⊎ (j < i))
order i j = elim (dec_lt i j) [ yes p ↦ inl p | no p ↦ elim (dec_lt j i) [ yes q ↦ inr (inr q) | no q ↦ inr (inl (omega arith)) ] ]

-- a number below n + 1 is below n, or n
pub split_last : (p n : ℕ) → p < n + 1 → (p < n) ⊎ (p ≡ n)
split_last p n h = ⊎_elim inl (⊎_elim inr (λ l. absurd (omega arith))) (order p n)

-- of two numbers, each the first that has not the property, neither is below the other
pub first_without : (P : ℕ → Type 0) {k n : ℕ} → ((i : ℕ) → i < k → P i) → (P k → ⊥) → ((i : ℕ) → i < n → P i) → (P n → ⊥) → k ≡ n
first_without P {k} {n} below here below' here' =
    ⊎_elim (λ l. absurd (here (below' k l))) (⊎_elim (λ e. e) (λ l. absurd (here' (below n l)))) (order k n)
