-- `of_levels` meets its contract: after i turns the first i cells are packed. Assumes nothing.
use Prim.Native.Nat.{ℕ}
use mathlib.Core.Path.{◌≡◌}
use lib.ListN.{get_or}
use Rattle.tables.specs.Cells.{packed}
use Rattle.tables.proofs.table.Table.of_levels.Given as goal

abbrev pub invariant-loop-i : goal.invariant-loop-i
invariant-loop-i l = l.t ≡ packed (λ (j : ℕ). get_or l.fn.levels j 0) l.i
