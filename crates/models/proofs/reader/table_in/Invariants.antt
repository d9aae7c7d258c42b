-- `table_in` meets its contract: the levels stored so far are those of the text. Assumes nothing.
use Prim.Native.Nat.{ℕ, ◌+◌, ◌/◌, ◌<◌}
use mathlib.Core.Path.{◌≡◌}
use lib.ListN.{length, get_or}
use Rattle.tables.specs.Strength.{level_of}
use Rattle.models.proofs.reader.table_in.Given as goal

abbrev pub invariant-loop-i : goal.invariant-loop-i
invariant-loop-i l = (length l.level-items ≡ 16) × ((j : ℕ) → j < l.i → get_or l.level-items j 0 ≡ level_of (get_or l.text (j + j / 4) 0))
