-- Document 01: "Two models are compared by their ppo: equal, first stronger, second stronger, or neither; stronger means no cell lower and
-- some cell higher."
use Rattle.std.specs.Prelude.{ℕ, ◌≤◌, ◌<◌, ◌≡◌, cond, List, Ok, Err, Result}
use Rattle.answers.specs.declared.Refusal.{Refusal}
use Rattle.tables.specs.declared.table.Table.{Table}
use Rattle.tables.specs.declared.table.Row.{Row}
use Rattle.tables.specs.declared.table.Column.{Column}
use Rattle.tables.specs.Table.{cell, at_least}
use Rattle.models.specs.Told.{Reading}
use Rattle.comparison.specs.declared.Comparison.{Comparison}
use Rattle.models.specs.Reading.{reading}

abbrev pub Same : Table → Table → Type 0
Same a b = (r : Row) (c : Column) → cell a r c ≡ cell b r c

-- no cell of the first is lower; some cell of the first is higher
abbrev pub NoneLower : Table → Table → Type 0
NoneLower a b = (r : Row) (c : Column) → cell b r c ≤ cell a r c

abbrev pub SomeHigher : Table → Table → Type 0
SomeHigher a b = (r : Row) × (c : Column) × (cell b r c < cell a r c)

abbrev pub Stronger : Table → Table → Type 0
Stronger a b = NoneLower a b × SomeHigher a b

-- what comparing two tables must find
pub data Compares (a b : Table) : Comparison → Type 0 where
  equal : Same a b → Compares a b Comparison.Equal
  first : Stronger a b → Compares a b Comparison.FirstStronger
  second : Stronger b a → Compares a b Comparison.SecondStronger
  neither : (Same a b → ⊥) → (Stronger a b → ⊥) → (Stronger b a → ⊥) → Compares a b Comparison.Neither

-- numbered in 01's order
abbrev pub number_of : Comparison → ℕ
number_of Comparison.Equal = 0
number_of Comparison.FirstStronger = 1
number_of Comparison.SecondStronger = 2
number_of Comparison.Neither = 3

-- the same as a function
unfoldable pub comparison : Table → Table → Comparison
comparison a b =
    cond (at_least a b) (cond (at_least b a) Comparison.Equal Comparison.FirstStronger)
    (cond (at_least b a) Comparison.SecondStronger Comparison.Neither)

-- what a comparison answers
abbrev pub Compared : Type 0
Compared = Result Comparison Refusal

-- the refusals of the first text, then of the second, then the comparison
abbrev pub compared_both : Table → Reading → Compared
compared_both a (Ok m) = Ok (comparison a m.ppo)
compared_both a (Err why) = Err why

abbrev pub compared_first : Reading → Reading → Compared
compared_first (Ok m) s = compared_both m.ppo s
compared_first (Err why) s = Err why

unfoldable pub comparing : List ℕ → List ℕ → Compared
comparing t u = compared_first (reading t) (reading u)
