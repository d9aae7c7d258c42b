-- Laws of tables, which callers cite instead of looking at bits: a table is known by its cells. Assumes nothing.
use Prim.Native.Nat.{ℕ, zero, suc, ◌*◌, ◌/◌, ◌%◌, ◌^◌, ◌≤◌, ◌<◌, max, min}
use mathlib.Core.Path.{◌≡◌, refl, sym, ap, ap₂, ◌∙◌}
use mathlib.Core.Bool.{Bool, true, cond}
use mathlib.Core.List.{List}
use native.Mathlib.Nat.{mod-lt, mod-eq_of_lt, zero-div}
use native.Mathlib.Omega.{arith}
use native.Mathlib.Decide.{dec_lt}
use borrow.Author.Tests.{eq-eqb, eqb-true, lt-ltb, le-ltb}
use lib.Dec.{ltb, lit<}
use lib.ListN.{get_or}
use Rattle.tables.specs.declared.table.Row.{Row}
use Rattle.tables.specs.declared.table.Column.{Column}
use Rattle.tables.specs.declared.table.Table.{Table}
use Rattle.tables.specs.Cells.{digit, packed}
use Rattle.tables.specs.Table.{row_number, column_number, cells, place, cell, row_of, column_of, table, Clean, excess, Merge, merged}
use Rattle.tables.specs.Table.{merged_table, at_least, levels_table}
use Rattle.tables.specs.inner.Planes.{picked_table}
use Rattle.tables.proofs.Excess.{excess_none, excess_below, excess_lifts}
use Rattle.tables.proofs.Packed.{packed_below, packed_cong, digit_packed, packed_own}

-- a cell is one of the four strengths
pub cell_below : (t : Table) (r : Row) (c : Column) → cell t r c < 4
cell_below t r c = mod-lt _ (omega arith)

pub row_below : (r : Row) → row_number r < 4
row_below Row.Cld = lit< tt
row_below Row.Cst = lit< tt
row_below Row.Ld = lit< tt
row_below Row.St = lit< tt

pub column_below : (c : Column) → column_number c < 4
column_below Column.Ld = lit< tt
column_below Column.Cld = lit< tt
column_below Column.St = lit< tt
column_below Column.Cst = lit< tt

row_own : (r : Row) → row_of (row_number r) ≡ r
row_own Row.Cld = refl
row_own Row.Cst = refl
row_own Row.Ld = refl
row_own Row.St = refl

column_own : (c : Column) → column_of (column_number c) ≡ c
column_own Column.Ld = refl
column_own Column.Cld = refl
column_own Column.St = refl
column_own Column.Cst = refl

-- a row or a column is known by its number
pub row_known : (a b : Row) → row_number a ≡ row_number b → a ≡ b
row_known a b e = sym (row_own a) ∙ ap row_of e ∙ row_own b

pub column_known : (a b : Column) → column_number a ≡ column_number b → a ≡ b
column_known a b e = sym (column_own a) ∙ ap column_of e ∙ column_own b

row_number_lem : (n : ℕ) → n < 4 → row_number (row_of n) ≡ n
row_number_lem zero h = refl
row_number_lem (suc zero) h = refl
row_number_lem (suc (suc zero)) h = refl
row_number_lem (suc (suc (suc zero))) h = refl
row_number_lem (suc (suc (suc (suc n)))) h = absurd (omega arith)

column_number_lem : (n : ℕ) → n < 4 → column_number (column_of n) ≡ n
column_number_lem zero h = refl
column_number_lem (suc zero) h = refl
column_number_lem (suc (suc zero)) h = refl
column_number_lem (suc (suc (suc zero))) h = refl
column_number_lem (suc (suc (suc (suc n)))) h = absurd (omega arith)

-- a place is that of its row and column
place_own : (i : ℕ) → i < cells → place (row_of (i / 4)) (column_of (i % 4)) ≡ i
place_own i h = omega (arith, row_number_lem (i / 4) (omega arith), column_number_lem (i % 4) (omega arith))

at_place : (f : Row → Column → ℕ) (r : Row) (c : Column) → f (row_of (place r c / 4)) (column_of (place r c % 4)) ≡ f r c
at_place f r c =
    let a : place r c / 4 ≡ row_number r = omega (arith, column_below c) in
    let b : place r c % 4 ≡ column_number c = omega (arith, column_below c) in
    ap₂ f (ap row_of a ∙ row_own r) (ap column_of b ∙ column_own c)

-- a table has the cells that it was made of
cell_table : (f : Row → Column → ℕ) (r : Row) (c : Column) → cell (table f) r c ≡ f r c % 4
unfolding table
cell_table f r c =
    digit_packed (λ (i : ℕ). f (row_of (i / 4)) (column_of (i % 4))) cells (place r c) (omega (arith, row_below r, column_below c))
    ∙ ap (λ (m : ℕ). m % 4) (at_place f r c)

pub cell_made : (f : Row → Column → ℕ) (r : Row) (c : Column) → f r c < 4 → cell (table f) r c ≡ f r c
cell_made f r c l = cell_table f r c ∙ mod-eq_of_lt l

-- what is made of cells has no stray bits
pub table_clean : (f : Row → Column → ℕ) → Clean (table f)
unfolding table
table_clean f = packed_below (λ (i : ℕ). f (row_of (i / 4)) (column_of (i % 4))) cells

-- tables made of equal cells are equal
pub table_cong : (f g : Row → Column → ℕ) → ((r : Row) (c : Column) → f r c ≡ g r c) → table f ≡ table g
unfolding table
table_cong f g h =
    ap (λ (n : ℕ). record { packed = n })
    (packed_cong (λ (i : ℕ). f (row_of (i / 4)) (column_of (i % 4))) (λ (i : ℕ). g (row_of (i / 4)) (column_of (i % 4))) cells
    (λ i l. h (row_of (i / 4)) (column_of (i % 4))))

-- a table without stray bits is made of its own cells
pub table_own : (t : Table) → Clean t → table (cell t) ≡ t
unfolding table
table_own t h =
    ap (λ (n : ℕ). record { packed = n })
    (packed_cong (λ (i : ℕ). cell t (row_of (i / 4)) (column_of (i % 4))) (digit t.packed) cells
    (λ i l. ap (digit t.packed) (place_own i l))
    ∙ packed_own t.packed cells h)

-- For readers: so a table is known by its cells, if it has no stray bits.
pub same_cells : (a b : Table) → Clean a → Clean b → ((r : Row) (c : Column) → cell a r c ≡ cell b r c) → a ≡ b
same_cells a b ca cb h = sym (table_own a ca) ∙ table_cong (cell a) (cell b) h ∙ table_own b cb

merged_below : (how : Merge) (a b : ℕ) → a < 4 → b < 4 → merged how a b < 4
merged_below Merge.Higher a b la lb = omega arith
merged_below Merge.Lower a b la lb = omega arith
merged_below Merge.Exceeding a b la lb = excess_below a b 4 la

-- the cells of what is made of two tables: their max for `higher`, their min for `lower`, the excess for `exceeding`
pub cell_merged : (how : Merge) (a b : Table) (r : Row) (c : Column) → cell (merged_table how a b) r c ≡ merged how (cell a r c) (cell b r c)
unfolding merged_table
cell_merged how a b r c =
    cell_made (λ (r : Row) (c : Column). merged how (cell a r c) (cell b r c)) r c
    (merged_below how _ _ (cell_below a r c) (cell_below b r c))

-- cells that are each merged from two tables make the merged table
pub table_merged : (how : Merge) (a b : Table) (f : Row → Column → ℕ)
    → ((r : Row) (c : Column) → f r c ≡ merged how (cell a r c) (cell b r c)) → table f ≡ merged_table how a b
unfolding merged_table
table_merged how a b f h = table_cong f (λ (r : Row) (c : Column). merged how (cell a r c) (cell b r c)) h

-- the number 0 has only `-`
pub cell_none : (r : Row) (c : Column) → cell (record { packed = 0 }) r c ≡ 0
cell_none r c = ap (λ (n : ℕ). n % 4) (zero-div (2 ^ (2 * place r c)))

-- what is picked place by place is the picked table
abbrev picked_at : Table → Table → Table → Table → ℕ → ℕ
picked_at a b x y i = cond (ltb (digit b.packed i) (digit a.packed i)) (digit x.packed i) (digit y.packed i)

pub picked_places : (a b x y : Table) → record { packed = packed (picked_at a b x y) cells } ≡ picked_table a b x y
unfolding picked_table table
picked_places a b x y =
    ap (λ (n : ℕ). record { packed = n })
    (packed_cong (picked_at a b x y) _ cells (λ i l. ap (picked_at a b x y) (sym (place_own i l))))

-- the three tables made of two are picked so
module _ (a b : Table) where
  pub picked_higher : picked_table a b a b ≡ merged_table Merge.Higher a b
  unfolding picked_table
  picked_higher = table_merged Merge.Higher a b _ (λ r c. at (cell a r c) (cell b r c))
    where
      at : (x y : ℕ) → cond (ltb y x) x y ≡ max x y
      at x y = by (dec_lt y x)
        where
          by : Dec (y < x) → cond (ltb y x) x y ≡ max x y
          by (yes l) = ap (λ (t : Bool). cond t x y) (lt-ltb y x l) ∙ omega arith
          by (no l) = ap (λ (t : Bool). cond t x y) (le-ltb y x (omega arith)) ∙ omega arith

  pub picked_lower : picked_table a b b a ≡ merged_table Merge.Lower a b
  unfolding picked_table
  picked_lower = table_merged Merge.Lower a b _ (λ r c. at (cell a r c) (cell b r c))
    where
      at : (x y : ℕ) → cond (ltb y x) y x ≡ min x y
      at x y = by (dec_lt y x)
        where
          by : Dec (y < x) → cond (ltb y x) y x ≡ min x y
          by (yes l) = ap (λ (t : Bool). cond t y x) (lt-ltb y x l) ∙ omega arith
          by (no l) = ap (λ (t : Bool). cond t y x) (le-ltb y x (omega arith)) ∙ omega arith

  pub picked_exceeding : picked_table a b a (record { packed = 0 }) ≡ merged_table Merge.Exceeding a b
  unfolding picked_table
  picked_exceeding = table_merged Merge.Exceeding a b _ (λ r c. ap (cond (ltb (cell b r c) (cell a r c)) (cell a r c)) (cell_none r c))

-- a table whose cells are all `-` is the number 0
table_none : table (λ (r : Row) (c : Column). 0) ≡ record { packed = 0 }
unfolding table
table_none = refl

-- at least is at least in every cell
pub at_least_cells : (a b : Table) → at_least a b ≡ true → (r : Row) (c : Column) → cell b r c ≤ cell a r c
unfolding at_least
at_least_cells a b h r c =
    let e : excess (cell b r c) (cell a r c) ≡ 0 =
    sym (cell_merged Merge.Exceeding b a r c) ∙ ap (λ (n : ℕ). digit n (place r c)) (eqb-true _ _ h) ∙ cell_none r c in
    omega (arith, excess_lifts (cell b r c) (cell a r c) 0 (omega arith))

pub cells_at_least : (a b : Table) → ((r : Row) (c : Column) → cell b r c ≤ cell a r c) → at_least a b ≡ true
unfolding at_least merged_table
cells_at_least a b h =
    eq-eqb _ _ (ap (λ (t : Table). t.packed) (table_cong _ (λ (r : Row) (c : Column). 0) (λ r c. excess_none _ _ (h r c)) ∙ table_none))

-- levels packed place by place are their table
pub levels_places : (levels : List ℕ) → record { packed = packed (λ (i : ℕ). get_or levels i 0) cells } ≡ levels_table levels
unfolding levels_table table
levels_places levels =
    ap (λ (n : ℕ). record { packed = n })
    (packed_cong (λ (i : ℕ). get_or levels i 0) _ cells (λ i l. ap (λ (k : ℕ). get_or levels k 0) (sym (place_own i l))))
