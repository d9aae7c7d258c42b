-- Fields with a bar behind each, and numbers in decimal.
use Rattle.std.specs.Prelude.{ℕ, zero, suc, ◌+◌, ◌*◌, ◌%◌, ◌^◌, cond, List, [], ◌∷◌, take, drop, nat_le}
use Rattle.ground.specs.Search.{index_of}

-- the first field, and what stands behind its bar
abbrev pub first_of : List ℕ → List ℕ
first_of s = take (index_of 124 s) s

abbrev pub others_of : List ℕ → List ℕ
others_of s = drop (suc (index_of 124 s)) s

-- all from a field on, the first being field 0
abbrev pub from : ℕ → List ℕ → List ℕ
from zero s = s
from (suc k) s = from k (others_of s)

-- the number with a digit behind it, modulo 2^64, any byte being one of sixteen digits; a number with no room for a digit stays as it is
abbrev pub with_digit : ℕ → ℕ → ℕ
with_digit sum byte = cond (nat_le sum 1844674407370955161) ((sum * 10 + byte % 16) % 2 ^ 64) sum

abbrev pub number_in : ℕ → List ℕ → ℕ
number_in sum [] = sum
number_in sum (b ∷ rest) = number_in (with_digit sum b) rest
