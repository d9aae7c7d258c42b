-- Comparing two tables finds what 01's words say: no cell of the one is lower than that of the other, or one is, by looking at all. Assumes
-- nothing.
use Prim.Native.Nat.{◌≤◌}
use mathlib.Core.Path.{◌≡◌, refl, sym, ap₂, ◌∙◌, subst}
use mathlib.Core.Bool.{Bool, true, false, true≢false, cond}
use mathlib.Core.Logic.{◌⊎◌, inl, inr}
use native.Mathlib.Omega.{arith}
use native.Mathlib.Nat.{le_antisymm}
use native.Mathlib.Decide.{dec_le}
use Rattle.tables.specs.declared.table.Table.{Table}
use Rattle.tables.specs.declared.table.Row.{Row}
use Rattle.tables.specs.declared.table.Column.{Column}
use Rattle.tables.specs.Table.{cell, at_least}
use Rattle.tables.proofs.Laws.{at_least_cells, cells_at_least}
use Rattle.comparison.specs.declared.Comparison.{Comparison}
use Rattle.comparison.specs.Comparison.{NoneLower, SomeHigher, Compares, equal, first, second, neither, comparison}

-- every cell of the first is at most that of the second, or one is higher: column by column, row by row
module _ (P : Column → Type 0) (Q : Type 0) where
  each_column : (P Column.Ld ⊎ Q) → (P Column.Cld ⊎ Q) → (P Column.St ⊎ Q) → (P Column.Cst ⊎ Q) → ((c : Column) → P c) ⊎ Q
  each_column (inr q) x y z = inr q
  each_column (inl w) (inr q) y z = inr q
  each_column (inl w) (inl x) (inr q) z = inr q
  each_column (inl w) (inl x) (inl y) (inr q) = inr q
  each_column (inl w) (inl x) (inl y) (inl z) = inl all
    where
      all : (c : Column) → P c
      all Column.Ld = w
      all Column.Cld = x
      all Column.St = y
      all Column.Cst = z

module _ (P : Row → Type 0) (Q : Type 0) where
  each_row : (P Row.Cld ⊎ Q) → (P Row.Cst ⊎ Q) → (P Row.Ld ⊎ Q) → (P Row.St ⊎ Q) → ((r : Row) → P r) ⊎ Q
  each_row (inr q) x y z = inr q
  each_row (inl w) (inr q) y z = inr q
  each_row (inl w) (inl x) (inr q) z = inr q
  each_row (inl w) (inl x) (inl y) (inr q) = inr q
  each_row (inl w) (inl x) (inl y) (inl z) = inl all
    where
      all : (r : Row) → P r
      all Row.Cld = w
      all Row.Cst = x
      all Row.Ld = y
      all Row.St = z

higher_or : (a b : Table) → NoneLower b a ⊎ SomeHigher a b
higher_or a b = each_row Low (SomeHigher a b) (row Row.Cld) (row Row.Cst) (row Row.Ld) (row Row.St)
  where
    -- a row of which no cell is higher
    Low : Row → Type 0
    Low r = (c : Column) → cell a r c ≤ cell b r c

    at : (r : Row) (c : Column) → (cell a r c ≤ cell b r c) ⊎ SomeHigher a b
    at r c = by (dec_le (cell a r c) (cell b r c))
      where
        by : Dec (cell a r c ≤ cell b r c) → (cell a r c ≤ cell b r c) ⊎ SomeHigher a b
        by (yes l) = inl l
        by (no g) = inr (r, c, omega arith)

    row : (r : Row) → Low r ⊎ SomeHigher a b
    row r = each_column (λ (c : Column). cell a r c ≤ cell b r c) _ (at r Column.Ld) (at r Column.Cld) (at r Column.St) (at r Column.Cst)

module _ (a b : Table) where
  low : at_least a b ≡ false → NoneLower a b → ⊥
  low e n = true≢false (sym (cells_at_least a b n) ∙ e)

  some_higher : at_least b a ≡ false → SomeHigher a b
  some_higher e = by (higher_or a b)
    where
      by : NoneLower b a ⊎ SomeHigher a b → SomeHigher a b
      by (inl n) = absurd (true≢false (sym (cells_at_least b a n) ∙ e))
      by (inr s) = s

  not_higher : SomeHigher a b → at_least b a ≡ false
  not_higher (r, c, l) = by (at_least b a) refl
    where
      by : (q : Bool) → at_least b a ≡ q → at_least b a ≡ false
      by true e = absurd (omega (arith, at_least_cells b a e r c))
      by false e = e

-- by the two tests
abbrev by_tests : Bool → Bool → Comparison
by_tests x y = cond x (cond y Comparison.Equal Comparison.FirstStronger) (cond y Comparison.SecondStronger Comparison.Neither)

pub compares : (a b : Table) → Compares a b (comparison a b)
unfolding comparison
compares a b = by (at_least a b) (at_least b a) refl refl
  where
    by : (x y : Bool) → at_least a b ≡ x → at_least b a ≡ y → Compares a b (by_tests x y)
    by true true p q = equal (λ r c. le_antisymm (at_least_cells b a q r c) (at_least_cells a b p r c))
    by true false p q = first (at_least_cells a b p, some_higher a b q)
    by false true p q = second (at_least_cells b a q, some_higher b a p)
    by false false p q =
        neither (λ s. low a b p (λ r c. omega (arith, s r c))) (λ s. low a b p s.0) (λ s. low b a q s.0)

tested : (a b : Table) (x y : Bool) → at_least a b ≡ x → at_least b a ≡ y → comparison a b ≡ by_tests x y
unfolding comparison
tested a b x y p q = ap₂ by_tests p q

pub compares_is : {a b : Table} {x : Comparison} → Compares a b x → x ≡ comparison a b
compares_is {a} {b} (equal s) =
    sym (tested a b true true (cells_at_least a b (λ r c. omega (arith, s r c))) (cells_at_least b a (λ r c. omega (arith, s r c))))
compares_is {a} {b} (first s) = sym (tested a b true false (cells_at_least a b s.0) (not_higher a b s.1))
compares_is {a} {b} (second s) = sym (tested a b false true (not_higher b a s.1) (cells_at_least b a s.0))
compares_is {a} {b} (neither not_same not_first not-second) = by (compares a b)
  where
    by : {y : Comparison} → Compares a b y → Comparison.Neither ≡ y
    by (equal s) = absurd (not_same s)
    by (first s) = absurd (not_first s)
    by (second s) = absurd (not-second s)
    by (neither x y z) = refl

-- what the function says the words say
pub compares_if : {a b : Table} {r : Comparison} → r ≡ comparison a b → Compares a b r
compares_if {a} {b} e = subst (Compares a b) (sym e) (compares a b)
