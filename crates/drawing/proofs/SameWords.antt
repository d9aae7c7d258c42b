-- A machine's drawing hangs on its header and on the words of its states and letters alone: each line is of one word. Assumes nothing.
use Prim.Native.Nat.{ℕ, ◌<◌, ◌≤◌}
use mathlib.Core.Path.{◌≡◌, ap}
use mathlib.Core.List.{List, ◌++◌}
use native.Mathlib.Omega.{arith}
use Rattle.ground.specs.Bytes.{bytes}
use Rattle.operations.specs.Alphabet.{letters_with, stride}
use Rattle.printing.specs.Turns.{in_turn}
use Rattle.printing.proofs.Turns.{in_turn_same}
use Rattle.image.specs.declared.machine.Header.{Header}
use Rattle.image.specs.Image.{word}
use Rattle.drawing.specs.Drawing.{label_line, node_line, edge_line, state_edges, drawing_of}

pub drawing_of_words : (h : Header) (rows rows' : List ℕ) → h.ups ≤ 16 → ((s a : ℕ) → s < h.states → a < stride → word rows s a ≡ word rows' s a)
    → drawing_of h rows ≡ drawing_of h rows'
drawing_of_words h rows rows' few same =
    ap (λ (edges : List ℕ). bytes "digraph shim {\n" ++ (label_line h ++ (in_turn node_line h.states ++ (edges ++ bytes "}\n"))))
    (in_turn_same (state_edges (letters_with h.ups) rows) (state_edges (letters_with h.ups) rows') h.states
    (λ s l.
    in_turn_same (λ (a : ℕ). edge_line s a (word rows s a)) (λ (a : ℕ). edge_line s a (word rows' s a)) (letters_with h.ups)
    (λ a m. ap (edge_line s a) (same s a l (omega arith)))))
