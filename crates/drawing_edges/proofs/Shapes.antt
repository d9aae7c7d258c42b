-- The nearest shape that a machine can have is one, and of a shape that a machine can have it is that shape. Assumes nothing.
use Prim.Native.Nat.{ℕ}
use mathlib.Core.Path.{◌≡◌, subst}
use mathlib.Core.List.{List}
use native.Mathlib.Omega.{arith}
use Rattle.texts.specs.Telling.{Taken, Finds}
use Rattle.drawing_edges.specs.declared.Shape.{Shape}
use Rattle.drawing_edges.specs.Edges.{EdgePart, Shaped, nearest}

pub nearest_shaped : (sh : Shape) → Shaped (nearest sh)
nearest_shaped sh = record { some = omega arith; states = omega arith; letters = omega arith; targets = omega arith }

abbrev shape : ℕ → ℕ → ℕ → Shape
shape states letters targets = record { states = states; letters = letters; targets = targets }

same : {a b c x y z : ℕ} → a ≡ x → b ≡ y → c ≡ z → shape a b c ≡ shape x y z
same p q r = cc

nearest_own : (sh : Shape) → Shaped sh → nearest sh ≡ sh
nearest_own sh h = same (omega (arith, h.some, h.states)) (omega (arith, h.letters)) (omega (arith, h.targets))

module _ (sh : Shape) (state letter : ℕ) {t : List ℕ} {at : ℕ} {x : Taken ℕ} where
  pub edge_own : Shaped sh → Finds (EdgePart (nearest sh) state letter) t at x → Finds (EdgePart sh state letter) t at x
  edge_own h = subst (λ (s : Shape). Finds (EdgePart s state letter) t at x) (nearest_own sh h)
