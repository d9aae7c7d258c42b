-- What the tests of pairs mean. Assumes nothing.
use Prim.Native.Nat.{ℕ, ◌<◌}
use mathlib.Core.Path.{◌≡◌}
use mathlib.Core.Bool.{Bool, true, false}
use borrow.Author.Tests.{le-leb, leb-true, leb-false}
use lib.Dec.{leb}
use Rattle.tables.specs.declared.table.Row.{Row}
use Rattle.tables.specs.declared.table.Column.{Column}
use Rattle.tables.specs.Table.{row_number, column_number}
use Rattle.tables.proofs.Laws.{row_known, column_known}
use Rattle.operations.specs.declared.Kind.{Kind}
use Rattle.rule.specs.Stream.{Stream, count, kind_at, after}
use Rattle.rule.specs.Pairs.{Model, earlier_rows, later_columns, is_row, is_column, highest, AtMost, every, kept, Settled, settled}
use Rattle.rule.proofs.Folds.{every_at, at_every, every_below_lem, below_every, some_fails, one_fails}

module _ (up target : Model) (a b : Kind) (x y : Stream) where
  -- the test of one row and one column, and that of one row
  abbrev in_cell : Row → Column → Bool
  in_cell r c = leb (highest up r c x) (highest target r c y)

  abbrev in_row : Row → Bool
  in_row r = every (in_cell r) (later_columns b)

  kept_means : kept up target a b x y ≡ true → AtMost up target a b x y
  kept_means e r c hr hc =
      leb-true _ _
      (every_at column_number column_known (in_cell r) (later_columns b) (every_at row_number row_known in_row (earlier_rows a) e r hr) c hc)

  means_kept : AtMost up target a b x y → kept up target a b x y ≡ true
  means_kept h =
      at_every row_number row_known in_row (earlier_rows a)
      (λ r hr. at_every column_number column_known (in_cell r) (later_columns b) (λ c hc. le-leb _ _ (h r c hr hc)))

  -- a pair that fails the test is short somewhere
  short_somewhere : kept up target a b x y ≡ false
      → (r : Row) × (c : Column) × (is_row a r ≡ true) × (is_column b c ≡ true) × (highest target r c y < highest up r c x)
  short_somewhere e =
      let v = one_fails row_number in_row (earlier_rows a) e in
      let w = one_fails column_number (in_cell v.0) (later_columns b) v.2 in
      (v.0, w.0, v.1, w.1, leb-false _ _ w.2)

module _ (up target : Model) (input output : Stream) (k : Kind) where
  pub settled_means : settled up target input output k ≡ true → Settled up target input output k
  unfolding settled
  settled_means e i l = kept_means up target (kind_at input i) k (after i input) (after i output) (every_below_lem (count input) _ e i l)

  pub means_settled : Settled up target input output k → settled up target input output k ≡ true
  unfolding settled
  means_settled h =
      below_every (count input) _ (λ i l. means_kept up target (kind_at input i) k (after i input) (after i output) (h i l))

  -- a pair that is short, where not all are kept
  pub some_short : settled up target input output k ≡ false
      → (i : ℕ) × (i < count input) × (r : Row) × (c : Column) × (is_row (kind_at input i) r ≡ true) × (is_column k c ≡ true)
      × (highest target r c (after i output) < highest up r c (after i input))
  unfolding settled
  some_short e =
      let v = some_fails (count input) _ e in
      let w = short_somewhere up target (kind_at input v.0) k (after v.0 input) (after v.0 output) v.2 in
      (v.0, v.1, w.0, w.1, w.2, w.3, w.4)
