-- The lines of a drawing's nodes as a part of its text.
use Rattle.std.specs.Prelude.{ℕ, zero, suc, ◌+◌, Ok, Err}
use Rattle.ground.specs.Bytes.{bytes}
use Rattle.texts.specs.Step.{Part}
use Rattle.texts.specs.Language.{Telling}
use Rattle.texts.specs.Telling.{Then, Through, Either, Word, Taken, took, stopped}
use Rattle.drawing.specs.Drawing.{node_line}

-- the first edge is one of state 0: its `0` ends the nodes, and no other node's line begins so
abbrev pub NodesEnd : ℕ → Telling ℕ
NodesEnd n = Through (λ _. n) (Word (bytes "0"))

-- at most so many lines, the first that of node k, and the `0` behind them; they tell how many nodes there are
unfoldable pub NodesFrom : ℕ → ℕ → Telling ℕ
NodesFrom zero k = NodesEnd k
NodesFrom (suc left) k = Either (Then (Word (node_line k)) (λ _. NodesFrom left (suc k))) (NodesEnd k)

-- the lines of 1 to 255 nodes and the `0` behind them
abbrev pub NodesPart : Telling ℕ
NodesPart = Then (Word (node_line 0)) (λ _. NodesFrom 254 1)

-- what reading the nodes has taken, by the place of the `0` and how many they are
abbrev pub nodes_taken : Part → Taken ℕ
nodes_taken (Ok (p, n)) = took (p + 1) n
nodes_taken (Err p) = stopped p
