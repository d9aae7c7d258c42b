-- Document 01: "A cell is one of `-` (unordered), `N` (non-atomic), `M` (multiple-copy atomic), `S` (single-copy atomic, or plainly
-- ordered), in that rising order." A cell is its level in that order: 0 for `-`, 1 for `N`, 2 for `M`, 3 for `S`.
use Rattle.std.specs.Prelude.{ℕ, cond, eqb}

-- the level that a cell's letter stands for; a byte that is none of the four letters counts as `-`
abbrev pub level_of : ℕ → ℕ
level_of b = cond (eqb b 78) 1 (cond (eqb b 77) 2 (cond (eqb b 83) 3 0))

-- the letter of a level; one above 3, which is no strength, counts as `S`
abbrev pub letter : ℕ → ℕ
letter level = cond (eqb level 0) 45 (cond (eqb level 1) 78 (cond (eqb level 2) 77 83))
