-- `nodes` meets its contract: what the lines from here on tell is what all of them tell. Assumes nothing.
use Prim.Native.Nat.{ℕ, ◌-◌, ◌≤◌}
use Rattle.texts.specs.Telling.{Taken, Finds}
use Rattle.drawing_nodes.specs.Nodes.{NodesFrom, NodesPart}
use Rattle.drawing_nodes.proofs.nodes.Given as goal

abbrev pub invariant-loop-number : goal.invariant-loop-number
invariant-loop-number l =
    (1 ≤ l.number) × (l.number ≤ 255) × ((r : Taken ℕ) → Finds (NodesFrom (255 - l.number) l.number) l.text l.here r → Finds NodesPart l.text l.at r)
