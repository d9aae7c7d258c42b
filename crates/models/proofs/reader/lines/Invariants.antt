-- `lines` meets its contract: the whole is what follows from here. Assumes nothing.
use Prim.Native.Nat.{◌-◌}
use mathlib.Core.Path.{◌≡◌}
use Rattle.models.specs.Reading.{lines_from}
use Rattle.models.proofs.reader.lines.Given as goal

abbrev pub invariant-loop-k : goal.invariant-loop-k
invariant-loop-k l =
    (l.model.fences ≡ l.k)
    × (lines_from 16 l.text (record { model = l.initial.model; repeat = l.initial.repeat }) l.at
    ≡ lines_from (16 - l.k) l.text (record { model = l.model; repeat = l.repeat }) l.here)
