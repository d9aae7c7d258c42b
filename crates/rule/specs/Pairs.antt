-- Document 01: "For two accesses, the strength asked is the highest of the upstream ppo cell for their kinds and that cell in each
-- upstream fence between them. The strength offered is the highest of the target ppo cell and that cell in each target fence between
-- them in the output. A pair is short where asked exceeds offered. Strengths are not added, and order through a third access does not
-- count."
-- The earlier of a pair counts in each row of its kind, the later in each column of its own.
use Rattle.std.specs.Prelude.{ℕ, zero, suc, ◌<◌, ◌≤◌, max, ◌≡◌, Bool, true, false, cond, List, [], ◌∷◌, map, leb, eqb, get_or}
use Rattle.tables.specs.declared.table.Row.{Row}
use Rattle.tables.specs.declared.table.Column.{Column}
use Rattle.tables.specs.declared.table.Table.{Table}
use Rattle.tables.specs.Table.{row_number, column_number, cell}
use Rattle.operations.specs.declared.Kind.{Kind}
use Rattle.operations.specs.declared.Operation.{Operation}
use Rattle.rule.specs.Stream.{Stream, count, kind_at, after, between}

-- a model: its default table, and the packed tables of its fences by number
pub record Model : Type 0 where
  pub ppo : Table
  pub fences : List ℕ

-- a fence's table; a fence that the model does not have orders nothing
abbrev pub table_at : List ℕ → ℕ → Table
table_at fences n = record { packed = get_or fences n 0 }

abbrev pub fence_table : Model → ℕ → Table
fence_table m n = table_at m.fences n

-- the rows in which an access counts as the earlier of a pair, and the columns in which it counts as the later
abbrev pub earlier_rows : Kind → List Row
earlier_rows Kind.Ld = Row.Ld ∷ []
earlier_rows Kind.Cld = Row.Cld ∷ []
earlier_rows Kind.St = Row.St ∷ []
earlier_rows Kind.Cst = Row.Cst ∷ []

abbrev pub later_columns : Kind → List Column
later_columns Kind.Ld = Column.Ld ∷ []
later_columns Kind.Cld = Column.Cld ∷ []
later_columns Kind.St = Column.St ∷ []
later_columns Kind.Cst = Column.Cst ∷ []

-- whether a number is in a list
abbrev pub one_of : List ℕ → ℕ → Bool
one_of [] n = false
one_of (m ∷ ms) n = cond (eqb m n) true (one_of ms n)

-- whether an access of the kind counts in the row, as the earlier of a pair, or in the column, as the later
abbrev pub is_row : Kind → Row → Bool
is_row k r = one_of (map row_number (earlier_rows k)) (row_number r)

abbrev pub is_column : Kind → Column → Bool
is_column k c = one_of (map column_number (later_columns k)) (column_number c)

-- the higher of the model's ppo cell and that cell in each fence of a stretch
abbrev pub highest : Model → Row → Column → Stream → ℕ
highest m r c [] = cell m.ppo r c
highest m r c (Operation.Access k ∷ s) = highest m r c s
highest m r c (Operation.Fence n ∷ s) = max (cell (fence_table m n) r c) (highest m r c s)

-- what the upstream model asks of accesses i and j of the input, and what the target model offers them in the output
abbrev pub asked : Model → Stream → ℕ → ℕ → Row → Column → ℕ
asked up input i j r c = highest up r c (between i j input)

abbrev pub offered : Model → Stream → ℕ → ℕ → Row → Column → ℕ
offered target output i j r c = highest target r c (between i j output)

-- a pair is kept where asked is at most offered, in each row of the one and each column of the other; otherwise it is short
abbrev pub Kept : Model → Model → Stream → Stream → ℕ → ℕ → Type 0
Kept up target input output i j =
    (r : Row) (c : Column) → is_row (kind_at input i) r ≡ true → is_column (kind_at input j) c ≡ true
    → asked up input i j r c ≤ offered target output i j r c

-- no pair is short
abbrev pub Keeps : Model → Model → Stream → Stream → Type 0
Keeps up target input output = (i j : ℕ) → i < j → j < count input → Kept up target input output i j

-- the same of a pair of which the earlier access is of kind a, the later of kind b, and between which x stands in the input and y in
-- the output; and the same as a test
abbrev pub AtMost : Model → Model → Kind → Kind → Stream → Stream → Type 0
AtMost up target a b x y = (r : Row) (c : Column) → is_row a r ≡ true → is_column b c ≡ true → highest up r c x ≤ highest target r c y

abbrev pub every : {A : Type 0} → (A → Bool) → List A → Bool
every f [] = true
every f (a ∷ rest) = cond (f a) (every f rest) false

abbrev pub kept : Model → Model → Kind → Kind → Stream → Stream → Bool
kept up target a b x y =
    every (λ (r : Row). every (λ (c : Column). leb (highest up r c x) (highest target r c y)) (later_columns b)) (earlier_rows a)

-- after this input and this output, no pair that ends at an access of kind k coming now would be short; and the same as a test
abbrev pub Settled : Model → Model → Stream → Stream → Kind → Type 0
Settled up target input output k =
    (i : ℕ) → i < count input → AtMost up target (kind_at input i) k (after i input) (after i output)

-- the test f passes at every number below n
abbrev pub every_below : ℕ → (ℕ → Bool) → Bool
every_below zero f = true
every_below (suc n) f = cond (every_below n f) (f n) false

unfoldable pub settled : Model → Model → Stream → Stream → Kind → Bool
settled up target input output k =
    every_below (count input) (λ (i : ℕ). kept up target (kind_at input i) k (after i input) (after i output))
