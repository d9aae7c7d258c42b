-- What following a text answers.
use Rattle.std.specs.Prelude.{ℕ, Result}

-- the place after a part, or the place at which the text departs from it
abbrev pub Step : Type 0
Step = Result ℕ ℕ

-- the same of a part that tells a number: the place after it with the number
abbrev pub Part : Type 0
Part = Result (ℕ × ℕ) ℕ
