-- The contract of each public function allows one result: it is an equation on the result, or on the one field of a strength, which is the
-- whole strength. Assumes nothing.
use Prim.Native.Nat.{ℕ, max, min}
use mathlib.Core.Path.{◌≡◌, sym, ap, ◌∙◌}
use mathlib.Core.Bool.{Bool}
use mathlib.Core.List.{List}
use lib.Dec.{leb}
use Rattle.tables.specs.declared.strength.Strength.{Strength}
use Rattle.tables.specs.declared.table.Row.{Row}
use Rattle.tables.specs.declared.table.Column.{Column}
use Rattle.tables.specs.declared.table.Table.{Table}
use Rattle.tables.specs.Strength.{level_of, letter}
use Rattle.tables.specs.Table.{cell, higher, lower, exceeding, at_least, row_table, column_table, levels_table}

-- a strength is its level
by_level : {r r' : Strength} → r.level ≡ r'.level → r ≡ r'
by_level e = ap (λ (n : ℕ). record { level = n }) e

pub strength_higher_one : (self other : Strength) {r r' : Strength} → r.level ≡ max self.level other.level
    → r'.level ≡ max self.level other.level → r ≡ r'
strength_higher_one self other p q = by_level (p ∙ sym q)

pub strength_lower_one : (self other : Strength) {r r' : Strength} → r.level ≡ min self.level other.level
    → r'.level ≡ min self.level other.level → r ≡ r'
strength_lower_one self other p q = by_level (p ∙ sym q)

pub strength_at_least_one : (self other : Strength) {r r' : Bool} → r ≡ leb other.level self.level
    → r' ≡ leb other.level self.level → r ≡ r'
strength_at_least_one self other p q = p ∙ sym q

pub of_letter_one : (b : ℕ) {r r' : Strength} → r.level ≡ level_of b → r'.level ≡ level_of b → r ≡ r'
of_letter_one b p q = by_level (p ∙ sym q)

pub letter_one : (self : Strength) {r r' : ℕ} → r ≡ letter self.level → r' ≡ letter self.level → r ≡ r'
letter_one self p q = p ∙ sym q

pub cell_one : (self : Table) (row : Row) (column : Column) {r r' : Strength} → r.level ≡ cell self row column
    → r'.level ≡ cell self row column → r ≡ r'
cell_one self row column p q = by_level (p ∙ sym q)

pub table_higher_one : (self other : Table) {r r' : Table} → r ≡ higher self other → r' ≡ higher self other → r ≡ r'
table_higher_one self other p q = p ∙ sym q

pub table_lower_one : (self other : Table) {r r' : Table} → r ≡ lower self other → r' ≡ lower self other → r ≡ r'
table_lower_one self other p q = p ∙ sym q

pub exceeding_one : (self other : Table) {r r' : Table} → r ≡ exceeding self other → r' ≡ exceeding self other → r ≡ r'
exceeding_one self other p q = p ∙ sym q

pub table_at_least_one : (self other : Table) {r r' : Bool} → r ≡ at_least self other → r' ≡ at_least self other → r ≡ r'
table_at_least_one self other p q = p ∙ sym q

pub row_one : (row : Row) {r r' : Table} → r ≡ row_table row → r' ≡ row_table row → r ≡ r'
row_one row p q = p ∙ sym q

pub column_one : (column : Column) {r r' : Table} → r ≡ column_table column → r' ≡ column_table column → r ≡ r'
column_one column p q = p ∙ sym q

pub of_levels_one : (levels : List ℕ) {r r' : Table} → r ≡ levels_table levels → r' ≡ levels_table levels → r ≡ r'
of_levels_one levels p q = p ∙ sym q
