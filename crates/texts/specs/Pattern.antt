-- Patterns, and the steps by which a text follows one. A step says how many bytes of what is left belong to the part, or how many can be
-- followed before the text departs from it. That it reads the part is proved in proofs/Pattern.
use Rattle.std.specs.Prelude.{ℕ, suc, Bool, true, not, ◌&&◌, ◌||◌, cond, List, [], ◌∷◌, T, eqb, drop, Ok, Err}
use Rattle.texts.specs.Step.{Step}
use Rattle.texts.specs.Language.{Language, shift}

-- `-`, `N`, `M` or `S`
abbrev pub cell_byte : ℕ → Bool
cell_byte b = eqb b 45 || eqb b 78 || eqb b 77 || eqb b 83

-- a pattern is a text in which `?` stands for any cell
abbrev pub fits : ℕ → ℕ → Bool
fits p b = cond (eqb p 63) (cell_byte b) (eqb b p)

-- the form of a pattern: as long, and each byte fits
abbrev pub Follows : List ℕ → Language
Follows [] [] = Unit
Follows [] (b ∷ a) = ⊥
Follows (p ∷ ps) [] = ⊥
Follows (p ∷ ps) (b ∷ a) = T (fits p b) × Follows ps a

-- a word: a pattern without `?`
abbrev pub is_word : List ℕ → Bool
is_word [] = true
is_word (p ∷ ps) = not (eqb p 63) && is_word ps

-- one place further on
abbrev pub further : Step → Step
further (Ok k) = Ok (suc k)
further (Err k) = Err (suc k)

unfoldable pub follow : List ℕ → List ℕ → Step
follow [] s = Ok 0
follow (p ∷ ps) [] = Err 0
follow (p ∷ ps) (b ∷ s) = cond (fits p b) (further (follow ps s)) (Err 0)

-- the same at a place of the whole text
abbrev pub follow_at : List ℕ → List ℕ → ℕ → Step
follow_at pattern t at = shift at (follow pattern (drop at t))
