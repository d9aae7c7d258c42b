-- The contract of the public function allows one result: a text has one edge of the shape at a place, or departs from every one at one place.
-- Assumes nothing.
use Rattle.std.proofs.Common.{Ok, Err}
use Prim.Native.Nat.{ℕ}
use mathlib.Core.Path.{◌≡◌}
use mathlib.Core.List.{List}
use Rattle.texts.specs.Step.{Part}
use Rattle.texts.specs.Telling.{part_taken, Finds}
use Rattle.texts.proofs.Telling.{finds_one}
use Rattle.drawing_edges.specs.declared.Shape.{Shape}
use Rattle.drawing_edges.specs.Edges.{EdgePart, nearest}
use Rattle.drawing_edges.proofs.EdgeParts.{unique_edge}
use Rattle.drawing_edges.proofs.Shapes.{nearest_shaped}

same : (r r' : Part) → part_taken r ≡ part_taken r' → r ≡ r'
same (Ok (p, n)) (Ok (q, m)) e = cc
same (Ok (p, n)) (Err q) e = cc
same (Err p) (Ok (q, m)) e = cc
same (Err p) (Err q) e = cc

pub edge_line_one : (text : List ℕ) (at : ℕ) (sh : Shape) (state letter : ℕ) {r r' : Part}
    → Finds (EdgePart (nearest sh) state letter) text at (part_taken r)
    → Finds (EdgePart (nearest sh) state letter) text at (part_taken r')
    → r ≡ r'
edge_line_one text at sh state letter {r} {r'} a b =
    same r r' (finds_one (EdgePart (nearest sh) state letter) (unique_edge (nearest sh) (nearest_shaped sh) state letter) text at a b)
