-- The contract of each public function allows one result: following a number and a word is an equation, and a text has one row of nodes at a place
-- or departs from every such row at one. Assumes nothing.
use Rattle.std.proofs.Common.{Ok, Err}
use Prim.Native.Nat.{ℕ, ◌+◌}
use mathlib.Core.Path.{◌≡◌, sym, ap₂, ◌∙◌}
use mathlib.Core.List.{List, ◌++◌}
use native.Mathlib.Omega.{arith}
use Rattle.texts.specs.Step.{Step, Part}
use Rattle.texts.specs.Pattern.{follow_at}
use Rattle.texts.specs.Telling.{Finds}
use Rattle.texts.proofs.Telling.{finds_one}
use Rattle.printing.specs.Decimal.{decimal}
use Rattle.drawing_nodes.specs.Nodes.{NodesPart, nodes_taken}
use Rattle.drawing_nodes.proofs.NodeLines.{unique_nodes}

pub follow_decimal_one : (text : List ℕ) (at number : ℕ) (after : List ℕ) {r r' : Step} → r ≡ follow_at (decimal number ++ after) text at
    → r' ≡ follow_at (decimal number ++ after) text at
    → r ≡ r'
follow_decimal_one text at number after p q = p ∙ sym q

same : (r r' : Part) → nodes_taken r ≡ nodes_taken r' → r ≡ r'
same (Ok (p, n)) (Ok (q, m)) e =
    let behind : p + 1 ≡ q + 1 = cc in
    ap₂ (λ (a b : ℕ). Ok (a, b)) (omega (arith, behind)) (cc)
same (Ok (p, n)) (Err q) e = cc
same (Err p) (Ok (q, m)) e = cc
same (Err p) (Err q) e = cc

pub nodes_one : (text : List ℕ) (at : ℕ) {r r' : Part} → Finds NodesPart text at (nodes_taken r) → Finds NodesPart text at (nodes_taken r') → r ≡ r'
nodes_one text at {r} {r'} a b = same r r' (finds_one NodesPart unique_nodes text at a b)
