-- Laws of a cell where it exceeds another. Assumes nothing.
use Prim.Native.Nat.{ℕ, ◌≤◌, ◌<◌, max, min}
use mathlib.Core.Path.{◌≡◌}
use mathlib.Core.Bool.{Bool, true, false, cond}
use native.Mathlib.Decide.{dec_le}
use native.Mathlib.Omega.{arith}
use borrow.Author.Tests.{lt-ltb, le-ltb}
use lib.Dec.{ltb}
use Rattle.tables.specs.Table.{excess}

pub excess_none : (a b : ℕ) → a ≤ b → excess a b ≡ 0
excess_none a b h = simp (le-ltb _ _ h)

excess_some : (a b : ℕ) → b < a → excess a b ≡ a
excess_some a b h = simp (lt-ltb _ _ h)

pub excess_below : (a b n : ℕ) → a < n → excess a b < n
excess_below a b n h = under (ltb b a)
  where
    under : (t : Bool) → cond t a 0 < n
    under true = h
    under false = omega arith

-- the excess of a over b is the least that lifts b to a: it is at most x exactly when a is at most the higher of b and x
pub excess_lifts : (a b x : ℕ) → excess a b ≤ x → a ≤ max b x
excess_lifts a b x h = by (dec_le a b)
  where
    by : Dec (a ≤ b) → a ≤ max b x
    by (yes l) = omega arith
    by (no l) = omega (arith, h, excess_some a b (omega arith))

pub excess_least : (a b x : ℕ) → a ≤ max b x → excess a b ≤ x
excess_least a b x h = by (dec_le a b)
  where
    by : Dec (a ≤ b) → excess a b ≤ x
    by (yes l) = omega (arith, excess_none a b l)
    by (no l) = omega (arith, excess_some a b (omega arith))

-- two numbers with the same upper bounds are equal
same_bounds : (a b : ℕ) → ((x : ℕ) → a ≤ x → b ≤ x) → ((x : ℕ) → b ≤ x → a ≤ x) → a ≡ b
same_bounds a b up down = omega (arith, up a (omega arith), down b (omega arith))

-- what two ask together exceeds by what each does
pub excess_of_higher : (a f o : ℕ) → excess (max a f) o ≡ max (excess a o) (excess f o)
excess_of_higher a f o =
    same_bounds _ _
    (λ x h.
    let l = excess_lifts (max a f) o x h in
    omega (arith, excess_least a o x (omega (arith, l)), excess_least f o x (omega (arith, l))))
    (λ x h. excess_least (max a f) o x (omega (arith, excess_lifts a o x (omega arith), excess_lifts f o x (omega arith))))

-- over the lower of two there is the excess over either
pub excess_over_lower : (f a b : ℕ) → excess f (min a b) ≡ max (excess f a) (excess f b)
excess_over_lower f a b =
    same_bounds _ _
    (λ x h.
    let l = excess_lifts f (min a b) x h in
    omega (arith, excess_least f a x (omega (arith, l)), excess_least f b x (omega (arith, l))))
    (λ x h. excess_least f (min a b) x (omega (arith, excess_lifts f a x (omega arith), excess_lifts f b x (omega arith))))

-- over the higher of two there is what exceeds the one and then the other
pub excess_over_higher : (a o g : ℕ) → excess a (max o g) ≡ excess (excess a o) g
excess_over_higher a o g =
    same_bounds _ _
    (λ x h. excess_least (excess a o) g x (excess_least a o (max g x) (omega (arith, excess_lifts a (max o g) x h))))
    (λ x h. excess_least a (max o g) x (omega (arith, excess_lifts a o (max g x) (excess_lifts (excess a o) g x h))))
