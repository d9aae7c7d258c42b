-- A name in a field of so many bytes: zeros fill the field up behind it.
use Rattle.std.specs.Prelude.{ℕ, cond, List, [], ◌∷◌, eqb}

-- the name without the zeros that fill it up
unfoldable pub unfilled : List ℕ → List ℕ
unfilled [] = []
unfilled (b ∷ l) = cond (eqb b 0) [] (b ∷ unfilled l)
