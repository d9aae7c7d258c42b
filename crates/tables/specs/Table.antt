-- Document 01: "A table has sixteen cells, written as four rows for the earlier access in the order cld, cst, ld, st, each with
-- columns for the later access in the order ld, cld, st, cst." A cell is its level (specs/Strength).
use Rattle.std.specs.Prelude.{ℕ, ◌+◌, ◌*◌, ◌/◌, ◌%◌, ◌^◌, ◌<◌, max, min, Bool, cond, List, get_or, ltb, eqb}
use Rattle.tables.specs.declared.table.Row.{Row}
use Rattle.tables.specs.declared.table.Column.{Column}
use Rattle.tables.specs.declared.table.Table.{Table}
use Rattle.tables.specs.Cells.{digit, packed}

abbrev pub row_number : Row → ℕ
row_number Row.Cld = 0
row_number Row.Cst = 1
row_number Row.Ld = 2
row_number Row.St = 3

abbrev pub column_number : Column → ℕ
column_number Column.Ld = 0
column_number Column.Cld = 1
column_number Column.St = 2
column_number Column.Cst = 3

-- how many cells a table has
abbrev pub cells : ℕ
cells = 16

-- a cell's place: row after row, and in a row column after column
abbrev pub place : Row → Column → ℕ
place r c = 4 * row_number r + column_number c

abbrev pub cell : Table → Row → Column → ℕ
cell t r c = digit t.packed (place r c)

-- the row and the column of a number
abbrev pub row_of : ℕ → Row
row_of n = cond (eqb n 0) Row.Cld (cond (eqb n 1) Row.Cst (cond (eqb n 2) Row.Ld Row.St))

abbrev pub column_of : ℕ → Column
column_of n = cond (eqb n 0) Column.Ld (cond (eqb n 1) Column.Cld (cond (eqb n 2) Column.St Column.Cst))

-- the table with these cells
unfoldable pub table : (Row → Column → ℕ) → Table
table f = record { packed = packed (λ (i : ℕ). f (row_of (i / 4)) (column_of (i % 4))) cells }

-- no bit is set beyond the cells
abbrev pub Clean : Table → Type 0
Clean t = t.packed < 2 ^ (2 * cells)

-- the first of two cells where it exceeds the second, `-` elsewhere
abbrev pub excess : ℕ → ℕ → ℕ
excess a b = cond (ltb b a) a 0

-- what a cell becomes where two tables are made one
pub data Merge : Type 0 where
  Higher Lower Exceeding : Merge

abbrev pub merged : Merge → ℕ → ℕ → ℕ
merged Merge.Higher a b = max a b
merged Merge.Lower a b = min a b
merged Merge.Exceeding a b = excess a b

unfoldable pub merged_table : Merge → Table → Table → Table
merged_table how a b = table (λ (r : Row) (c : Column). merged how (cell a r c) (cell b r c))

-- the higher of each cell; the lower of each cell; each cell of the first where it exceeds that of the second
abbrev pub higher : Table → Table → Table
higher = merged_table Merge.Higher

abbrev pub lower : Table → Table → Table
lower = merged_table Merge.Lower

abbrev pub exceeding : Table → Table → Table
exceeding = merged_table Merge.Exceeding

-- every cell of the second is at most that cell of the first
unfoldable pub at_least : Table → Table → Bool
at_least a b = eqb (exceeding b a).packed 0

-- S in one row or one column, `-` elsewhere
unfoldable pub row_table : Row → Table
row_table r = table (λ (s : Row) (c : Column). cond (eqb (row_number s) (row_number r)) 3 0)

unfoldable pub column_table : Column → Table
column_table c = table (λ (r : Row) (d : Column). cond (eqb (column_number d) (column_number c)) 3 0)

-- sixteen levels, row after row
unfoldable pub levels_table : List ℕ → Table
levels_table levels = table (λ (r : Row) (c : Column). get_or levels (place r c) 0)
