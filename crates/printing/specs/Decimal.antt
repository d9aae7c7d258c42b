-- Numbers in decimal, without zeros in front.
use Rattle.std.specs.Prelude.{ℕ, zero, suc, ◌+◌, ◌/◌, ◌%◌, cond, List, [], ◌∷◌, ◌++◌, ltb}

abbrev pub digit : ℕ → List ℕ
digit n = (48 + n) ∷ []

-- of at most so many digits
unfoldable pub digits : ℕ → ℕ → List ℕ
digits zero n = []
digits (suc k) n = cond (ltb n 10) (digit n) (digits k (n / 10) ++ digit (n % 10))

-- a number has at most one digit more than it counts
unfoldable pub decimal : ℕ → List ℕ
decimal n = digits (suc n) n
