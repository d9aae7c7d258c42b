-- 01, "The machine": "States are numbered in order of first arrival: shorter streams first, then by operation in the order l, L, s, S, 0 upwards."
use Rattle.std.specs.Prelude.{ℕ, ◌<◌, ◌≡◌, ◌⊎◌, List, [], ◌∷◌, ◌++◌, length}

-- at the first place where v and w differ, v has the lower letter
abbrev pub Earlier : List ℕ → List ℕ → Type 0
Earlier [] w = ⊥
Earlier (a ∷ v) [] = ⊥
Earlier (a ∷ v) (b ∷ w) = (a < b) ⊎ ((a ≡ b) × Earlier v w)

infix 40 ◌≺◌ ◌≼◌
infixl 60 ◌▹◌
-- v arrives before w
pub data ◌≺◌ (v w : List ℕ) : Type 0 where
  shorter : length v < length w → v ≺ w
  earlier : length v ≡ length w → Earlier v w → v ≺ w

-- v does not arrive after w
abbrev pub ◌≼◌ : List ℕ → List ℕ → Type 0
v ≼ w = (v ≡ w) ⊎ (v ≺ w)

-- a stream with one letter more at its end
abbrev pub ◌▹◌ : List ℕ → ℕ → List ℕ
v ▹ a = v ++ (a ∷ [])
