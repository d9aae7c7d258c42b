-- `number_rest` meets its contract: what is left from here on is what was left at the start. Assumes nothing.
use Prim.Native.Nat.{◌≤◌, ◌<◌, max}
use mathlib.Core.Path.{◌≡◌}
use lib.ListN.{length, drop}
use Rattle.texts.specs.NumberPart.{part_shift, number_rest}
use Rattle.texts.proofs.number_rest.Given as goal

abbrev pub invariant-loop-here : goal.invariant-loop-here
invariant-loop-here l =
    (l.value < l.bound) × (l.here ≤ max l.at (length l.text))
    × (part_shift l.at (number_rest l.bound l.end l.start (drop l.at l.text))
    ≡ part_shift l.here (number_rest l.bound l.end l.value (drop l.here l.text)))
