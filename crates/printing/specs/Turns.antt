-- Texts in turn, as the lines of a listing or a drawing are.
use Rattle.std.specs.Prelude.{ℕ, zero, suc, List, [], ◌++◌}

-- the first n of a row of texts, one behind another
unfoldable pub in_turn : (ℕ → List ℕ) → ℕ → List ℕ
in_turn text zero = []
in_turn text (suc n) = in_turn text n ++ text n
