-- The parts of lines that the code puts: each way's word, where an edge leads, an edge by its bytes, and the whole. They hold by the tests in their
-- definitions. Assumes nothing.
use Prim.Native.Nat.{ℕ, ◌/◌, ◌%◌}
use mathlib.Core.Path.{◌≡◌, sym, ap, ap₂}
use mathlib.Core.Bool.{Bool, cond}
use mathlib.Core.List.{List, [], ◌∷◌, ◌++◌}
use borrow.Author.Tests.{eq-eqb, ne_eqb}
use Rattle.ground.specs.Bytes.{bytes}
use Rattle.operations.specs.Alphabet.{letters_with, operation_of, fence_mark}
use Rattle.operations.specs.Operation.{byte_of}
use Rattle.printing.specs.Decimal.{decimal}
use Rattle.printing.specs.Turns.{in_turn}
use Rattle.image.specs.declared.machine.Header.{Header}
use Rattle.drawing.specs.Drawing.{way_word, label_line, node_line, leads_to, edge_line, state_edges, drawing_of}

pub sparing_word : (way : ℕ) → way ≡ 0 → bytes "sparing" ≡ way_word way
sparing_word way e = sym (ap (λ (q : Bool). cond q (bytes "sparing") (bytes "full")) (eq-eqb _ _ e))

pub full_word : (way : ℕ) → (way ≡ 0 → ⊥) → bytes "full" ≡ way_word way
full_word way e = sym (ap (λ (q : Bool). cond q (bytes "sparing") (bytes "full")) (ne_eqb _ _ e))

pub leads_refused : (w : ℕ) → w / 256 ≡ 254 → bytes "refused" ≡ leads_to w
leads_refused w e = sym (ap (λ (q : Bool). cond q (bytes "refused") (decimal (w % 256))) (eq-eqb _ _ e))

pub leads_on : (w : ℕ) → (w / 256 ≡ 254 → ⊥) → decimal (w % 256) ≡ leads_to w
leads_on w e = sym (ap (λ (q : Bool). cond q (bytes "refused") (decimal (w % 256))) (ne_eqb _ _ e))

pub edge_text : (s a w l m : ℕ) → l ≡ byte_of (operation_of a) → m ≡ fence_mark (w / 256)
    → decimal s ++ (bytes " -> " ++ (leads_to w ++ (bytes " [label=\"" ++ ((l ∷ 32 ∷ m ∷ []) ++ bytes "\"];\n")))) ≡ edge_line s a w
edge_text s a w l m hl hm =
    ap₂ (λ (x y : ℕ). decimal s ++ (bytes " -> " ++ (leads_to w ++ (bytes " [label=\"" ++ ((x ∷ 32 ∷ y ∷ []) ++ bytes "\"];\n"))))) hl hm

-- a drawing by its header's counts as numbers
pub drawing_text : (h : Header) (rows : List ℕ) (states ups : ℕ) → states ≡ h.states → ups ≡ h.ups
    → bytes "digraph shim {\n" ++ (label_line h ++ (in_turn node_line states ++ (in_turn (state_edges (letters_with ups) rows) states ++ bytes "}\n")))
    ≡ drawing_of h rows
drawing_text h rows states ups hs hu =
    ap₂ (λ (x y : ℕ). bytes "digraph shim {\n" ++ (label_line h ++ (in_turn node_line x ++ (in_turn (state_edges (letters_with y) rows) x ++ bytes "}\n"))))
    hs hu
