-- The text of an answer: an answer has five numbers, and five numbers of at most twenty digits have at most 104 bytes with the blanks between.
-- Assumes nothing.
use Rattle.std.proofs.Common.{◌≡◌, ℕ, ◌+◌, ◌^◌, ◌<◌, ◌≤◌, List, [], ◌∷◌, ◌++◌, length, get_or, refl, ap, ◌∙◌, arith, length-append, Ok, Err}
use Rattle.ground.specs.Bytes.{bytes}
use Rattle.answers.specs.Answer.{Answer, numbers_of}
use Rattle.printing.specs.Decimal.{decimal}
use Rattle.printing.proofs.Decimals.{length_digits}
use Rattle.cases.specs.Printed.{behind_blanks, with_blanks}

abbrev five : List ℕ → List ℕ
five l = get_or l 0 0 ∷ get_or l 1 0 ∷ get_or l 2 0 ∷ get_or l 3 0 ∷ get_or l 4 0 ∷ []

pub all_five : (a : Answer) (l : List ℕ) → l ≡ numbers_of a
    → get_or l 0 0 ∷ get_or l 1 0 ∷ get_or l 2 0 ∷ get_or l 3 0 ∷ get_or l 4 0 ∷ [] ≡ numbers_of a
all_five a l e = ap five e ∙ all a
  where
    all : (a : Answer) → five (numbers_of a) ≡ numbers_of a
    all (Ok d) = refl
    all (Err why) = refl

behind-length : (n : ℕ) (rest : List ℕ) → n < 10 ^ 20 → length (behind_blanks (n ∷ rest)) ≤ 21 + length (behind_blanks rest)
behind-length n rest l = omega (arith, length-append (bytes " " ++ decimal n) (behind_blanks rest), length_digits 19 n l)

pub five-length : (a b c d e : ℕ) → a < 10 ^ 20 → b < 10 ^ 20 → c < 10 ^ 20 → d < 10 ^ 20 → e < 10 ^ 20
    → length (with_blanks (a ∷ b ∷ c ∷ d ∷ e ∷ [])) ≤ 104
five-length a b c d e la lb lc ld le =
    omega (
      arith,
      length-append (decimal a) (behind_blanks (b ∷ c ∷ d ∷ e ∷ [])),
      length_digits 19 a la,
      behind-length b (c ∷ d ∷ e ∷ []) lb,
      behind-length c (d ∷ e ∷ []) lc,
      behind-length d (e ∷ []) ld,
      behind-length e [] le,
    )
