-- The first place of a byte in a text.
use Rattle.std.specs.Prelude.{ℕ, zero, suc, Bool, true, false, ◌==◌, List, [], ◌∷◌}

-- the place, where the first byte is the one or not and it stands at this place behind that
unfoldable pub index_after : Bool → ℕ → ℕ
index_after true n = zero
index_after false n = suc n

-- the place of the first such byte, or the length where there is none
unfoldable pub index_of : ℕ → List ℕ → ℕ
index_of b [] = zero
index_of b (x ∷ rest) = index_after (x == b) (index_of b rest)
