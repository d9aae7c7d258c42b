-- How two tables are compared in one go: a plane is a number with one bit in each of the sixteen cells.
use Rattle.std.specs.Prelude.{ℕ, ◌-◌, ◌/◌, ◌%◌, max, min, cond, ltb}
use Rattle.tables.specs.declared.table.Row.{Row}
use Rattle.tables.specs.declared.table.Column.{Column}
use Rattle.tables.specs.declared.table.Table.{Table}
use Rattle.tables.specs.Cells.{digit, packed}
use Rattle.tables.specs.Table.{cells, cell, table}

-- a bit in each of sixteen cells
abbrev pub ones : ℕ
ones = 0x5555_5555

-- 1 where the first of two cells exceeds the second, told by their bits; else 0
abbrev pub over : ℕ → ℕ → ℕ
over x y = max (min (x / 2) (1 - y / 2)) (min (min (max (x / 2) (1 - y / 2)) (x % 2)) (1 - y % 2))

-- the plane of the cells in which a exceeds b
abbrev pub over_plane : ℕ → ℕ → ℕ
over_plane a b = packed (λ (i : ℕ). over (digit a i) (digit b i)) cells

-- the cells of x where a exceeds b, and of y elsewhere
unfoldable pub picked_table : Table → Table → Table → Table → Table
picked_table a b x y = table (λ (r : Row) (c : Column). cond (ltb (cell b r c) (cell a r c)) (cell x r c) (cell y r c))
