-- Document 01: "The situation of a stream is, for every pair of kinds, the highest strength asked among pairs still short for such an
-- access coming now (`-` if none), and the least offered among earlier accesses of the first kind (S if none)."
-- Then the same stepped: how each operation changes it, and the run that keeps only the situation of the past.
use Rattle.std.specs.Prelude.{ℕ, zero, suc, max, min, Bool, cond, List, [], ◌∷◌, ◌++◌, length}
use Rattle.tables.specs.declared.table.Row.{Row}
use Rattle.tables.specs.declared.table.Column.{Column}
use Rattle.tables.specs.declared.table.Table.{Table}
use Rattle.tables.specs.Table.{excess, table, higher, lower, exceeding, at_least}
use Rattle.operations.specs.declared.Kind.{Kind}
use Rattle.operations.specs.declared.Operation.{Operation}
use Rattle.rule.specs.declared.situation.Situation.{Situation}
use Rattle.rule.specs.declared.way.Way.{Way}
use Rattle.rule.specs.declared.way.Choice.{Choice}
use Rattle.rule.specs.declared.way.Step.{Step}
use Rattle.rule.specs.Stream.{Stream, access, fence, count, kind_at, after}
use Rattle.rule.specs.Pairs.{Model, table_at, fence_table, is_row, is_column, highest}
use Rattle.rule.specs.Rule.{pick, Ran, done, refused, behind}

-- by pairs

-- the highest of f at the numbers below n, `-` if there is none; the least of them, S if there is none
abbrev pub highest_below : ℕ → (ℕ → ℕ) → ℕ
highest_below zero f = 0
highest_below (suc n) f = max (highest_below n f) (f n)

abbrev pub least_below : ℕ → (ℕ → ℕ) → ℕ
least_below zero f = 3
least_below (suc n) f = min (least_below n f) (f n)

-- what access i asks where it is still short, and what it is offered, for a row and a column of an access coming now
abbrev pub need_at : Model → Model → Stream → Stream → Row → Column → ℕ → ℕ
need_at up target input output r c i =
    cond (is_row (kind_at input i) r) (excess (highest up r c (after i input)) (highest target r c (after i output))) 0

abbrev pub low_at : Model → Stream → Stream → Row → Column → ℕ → ℕ
low_at target input output r c i = cond (is_row (kind_at input i) r) (highest target r c (after i output)) 3

-- over all earlier accesses
abbrev pub need : Model → Model → Stream → Stream → Row → Column → ℕ
need up target input output r c = highest_below (count input) (need_at up target input output r c)

abbrev pub low : Model → Stream → Stream → Row → Column → ℕ
low target input output r c = least_below (count input) (low_at target input output r c)

-- both, cell by cell
unfoldable pub situation : Model → Model → Stream → Stream → Situation
situation up target input output = record { need = table (need up target input output); low = table (low target input output) }

-- stepped

-- a table with only `-`
abbrev pub none : Table
none = record { packed = 0 }

-- "The fresh shim has seen no access": no need, and S offered
abbrev pub fresh : Situation
fresh = record { need = none; low = record { packed = 0xffff_ffff } }

-- S in the rows of a kind and `-` elsewhere; `-` in its rows and S elsewhere; S in its columns and `-` elsewhere
unfoldable pub in_rows : Kind → Table
in_rows k = table (λ (r : Row) (c : Column). cond (is_row k r) 3 0)

unfoldable pub outside_rows : Kind → Table
outside_rows k = table (λ (r : Row) (c : Column). cond (is_row k r) 0 3)

unfoldable pub in_columns : Kind → Table
in_columns k = table (λ (r : Row) (c : Column). cond (is_column k c) 3 0)

-- after an upstream fence: it asks of every earlier access, where it exceeds what is offered
abbrev pub asks : Table → Situation → Situation
asks f s = record { need = higher s.need (exceeding f s.low); low = s.low }

-- after a target fence: needs that it does not exceed are settled, and it is offered to every earlier access
abbrev pub offers : Table → Situation → Situation
offers g s = record { need = exceeding s.need g; low = higher s.low g }

-- after an access of kind k: one earlier access more, in its rows
abbrev pub joins : Table → Table → Kind → Situation → Situation
joins up target k s =
    record {
      need = higher s.need (lower (in_rows k) (exceeding up target));
      low = lower s.low (higher target (outside_rows k));
    }

-- what an access of kind k coming now needs
abbrev pub pending : Kind → Situation → Table
pending k s = lower s.need (in_columns k)

-- whether a fence will do for what is pending: its table is at least that
abbrev pub serves : List ℕ → Table → ℕ → Bool
serves fences p g = at_least (table_at fences g) p

-- what the way puts before an access that needs this, of these fences
unfoldable pub choice_of : Way → List ℕ → Table → Choice
choice_of way fences p = cond (at_least none p) Choice.Nothing (pick way (serves fences p) (length fences))

-- an access after a choice: what is put before it, and the situation after it
abbrev pub step_of : Table → Model → Situation → Kind → Choice → Step
step_of up target s k Choice.Nothing = Step.Plain (joins up target.ppo k s)
step_of up target s k (Choice.Fence g) = Step.Fenced g (joins up target.ppo k (offers (fence_table target g) s))
step_of up target s k Choice.Refused = Step.Refused

-- an access of kind k in this situation
abbrev pub stepped : Way → Table → Model → Situation → Kind → Step
stepped way up target s k = step_of up target s k (choice_of way target.fences (pending k s))

-- the run by situations: what is put out further after a step, and from a situation on
abbrev pub resumed : Kind → (Situation → Ran) → Step → Ran
resumed k rest (Step.Plain next) = behind (access k) (rest next)
resumed k rest (Step.Fenced g next) = behind (fence g ++ access k) (rest next)
resumed k rest Step.Refused = refused 0

unfoldable pub steps : Way → Model → Model → Situation → Stream → Ran
steps way up target s [] = done []
steps way up target s (Operation.Fence n ∷ rest) = behind [] (steps way up target (asks (fence_table up n) s) rest)
steps way up target s (Operation.Access k ∷ rest) =
    resumed k (λ (next : Situation). steps way up target next rest) (stepped way up.ppo target s k)
