-- What the programs print of an answer.
use Rattle.std.specs.Prelude.{ℕ, List, [], ◌∷◌, ◌++◌}
use Rattle.ground.specs.Bytes.{bytes}
use Rattle.printing.specs.Decimal.{decimal}

-- numbers in decimal, each behind a blank; and with blanks between
abbrev pub behind_blanks : List ℕ → List ℕ
behind_blanks [] = []
behind_blanks (n ∷ rest) = (bytes " " ++ decimal n) ++ behind_blanks rest

abbrev pub with_blanks : List ℕ → List ℕ
with_blanks [] = []
with_blanks (n ∷ rest) = decimal n ++ behind_blanks rest
