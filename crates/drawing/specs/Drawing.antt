-- Document 02, W1: "Write each machine in the DOT graph language: a quoted graph label with both model names, the way and the two fence counts,
-- one node for each state, one edge for each operation in the listing's order, labelled with the operation and inserted fence. A refused
-- operation has an edge to a node named `refused`." The bytes are ours to fix: docs/DECISIONS.md.
use Rattle.std.specs.Prelude.{ℕ, ◌/◌, ◌%◌, cond, List, [], ◌∷◌, ◌++◌, eqb}
use Rattle.ground.specs.Bytes.{bytes}
use Rattle.operations.specs.Alphabet.{letters_with, operation_of, fence_mark}
use Rattle.operations.specs.Operation.{byte_of}
use Rattle.printing.specs.Decimal.{decimal}
use Rattle.printing.specs.Name.{unfilled}
use Rattle.printing.specs.Turns.{in_turn}
use Rattle.image.specs.declared.machine.Header.{Header}
use Rattle.image.specs.Image.{word}

-- "the way (0 sparing, 1 full)"
abbrev pub way_word : ℕ → List ℕ
way_word way = cond (eqb way 0) (bytes "sparing") (bytes "full")

abbrev pub label_line : Header → List ℕ
label_line h =
    bytes "label=\"" ++ (unfilled h.upstream ++ (bytes " " ++ (unfilled h.target ++ (bytes " " ++ (way_word h.way ++ (bytes " "
    ++ (decimal h.ups ++ (bytes " " ++ (decimal h.targets ++ bytes "\";\n")))))))))

abbrev pub node_line : ℕ → List ℕ
node_line state = decimal state ++ bytes ";\n"

-- where an edge leads, by a word of the rows (256 times the fence byte and the next state)
abbrev pub leads_to : ℕ → List ℕ
leads_to w = cond (eqb (w / 256) 254) (bytes "refused") (decimal (w % 256))

-- what an edge is labelled with: the letter's byte and the mark of its word
abbrev pub edge_label : ℕ → ℕ → List ℕ
edge_label letter w = byte_of (operation_of letter) ∷ 32 ∷ fence_mark (w / 256) ∷ []

-- the edge of a state and a letter
abbrev pub edge_line : ℕ → ℕ → ℕ → List ℕ
edge_line state letter w =
    decimal state ++ (bytes " -> " ++ (leads_to w ++ (bytes " [label=\"" ++ (edge_label letter w ++ bytes "\"];\n"))))

-- the edges of a state, for the first letters
abbrev pub state_edges : ℕ → List ℕ → ℕ → List ℕ
state_edges letters rows state = in_turn (λ (letter : ℕ). edge_line state letter (word rows state letter)) letters

-- the drawing of a machine, by its header and its rows
abbrev pub drawing_of : Header → List ℕ → List ℕ
drawing_of h rows =
    bytes "digraph shim {\n" ++ (label_line h ++ (in_turn node_line h.states
    ++ (in_turn (state_edges (letters_with h.ups) rows) h.states ++ bytes "}\n")))

-- the bytes of the longest drawing: 15 of the first line, 57 of the label, 1,165 of nodes, 134,480 of edges and 2 of the last line
abbrev pub longest : ℕ
longest = 135719
