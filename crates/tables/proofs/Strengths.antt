-- A letter for each level and a level for each letter: the two undo each other, case by case. Assumes nothing.
use Prim.Native.Nat.{ℕ, zero, suc, ◌<◌}
use mathlib.Core.Path.{◌≡◌, refl}
use mathlib.Core.List.{[], ◌∷◌, map}
use native.Mathlib.Omega.{arith}
use Rattle.tables.specs.Strength.{level_of, letter}

pub level_letter : (n : ℕ) → n < 4 → level_of (letter n) ≡ n
level_letter zero l = refl
level_letter (suc zero) l = refl
level_letter (suc (suc zero)) l = refl
level_letter (suc (suc (suc zero))) l = refl
level_letter (suc (suc (suc (suc n)))) l = absurd (omega arith)

-- For readers: of `-`, `N`, `M` and `S`.
pub letters_back : map (λ (b : ℕ). letter (level_of b)) (45 ∷ 78 ∷ 77 ∷ 83 ∷ []) ≡ 45 ∷ 78 ∷ 77 ∷ 83 ∷ []
letters_back = refl
