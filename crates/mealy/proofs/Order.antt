-- The order of streams: it is an order, and one letter more at the end of two streams keeps it. Assumes nothing.
use Prim.Native.Nat.{ℕ, suc, ◌<◌}
use mathlib.Core.Path.{◌≡◌, refl, sym, ap}
use mathlib.Core.Logic.{inl, inr}
use mathlib.Core.List.{List, [], ◌∷◌}
use native.Mathlib.Omega.{arith}
use lib.ListN.{length, length-append}
use Rattle.mealy.specs.Order.{Earlier, ◌≺◌, shorter, earlier, ◌≼◌, ◌▹◌}

earlier_irrefl : (v : List ℕ) → Earlier v v → ⊥
earlier_irrefl [] h = h
earlier_irrefl (a ∷ v) (inl h) = omega arith
earlier_irrefl (a ∷ v) (inr h) = earlier_irrefl v h.1

earlier_trans : (u v w : List ℕ) → Earlier u v → Earlier v w → Earlier u w
earlier_trans [] v w p q = p
earlier_trans (a ∷ u) [] w p q = absurd p
earlier_trans (a ∷ u) (b ∷ v) [] p q = q
earlier_trans (a ∷ u) (b ∷ v) (c ∷ w) (inl p) (inl q) = inl (omega arith)
earlier_trans (a ∷ u) (b ∷ v) (c ∷ w) (inl p) (inr q) = inl (omega arith)
earlier_trans (a ∷ u) (b ∷ v) (c ∷ w) (inr p) (inl q) = inl (omega arith)
earlier_trans (a ∷ u) (b ∷ v) (c ∷ w) (inr p) (inr q) = inr (omega arith, earlier_trans u v w p.1 q.1)

-- no stream arrives before itself
pub below_irrefl : (v : List ℕ) → v ≺ v → ⊥
below_irrefl v (shorter h) = omega arith
below_irrefl v (earlier e h) = earlier_irrefl v h

pub below_trans : {u v w : List ℕ} → u ≺ v → v ≺ w → u ≺ w
below_trans (shorter p) (shorter q) = shorter (omega arith)
below_trans (shorter p) (earlier d q) = shorter (omega arith)
below_trans (earlier e p) (shorter q) = shorter (omega arith)
below_trans {u} {v} {w} (earlier e p) (earlier d q) = earlier (omega arith) (earlier_trans u v w p q)

at_most_below : {u v w : List ℕ} → u ≼ v → v ≺ w → u ≺ w
at_most_below {u} {v} {w} (inl p) q = rw p q
at_most_below (inr p) q = below_trans p q

pub at_most_trans : {u v w : List ℕ} → u ≼ v → v ≼ w → u ≼ w
at_most_trans p (inl q) = rw q at p
at_most_trans p (inr q) = inr (at_most_below p q)

-- of two streams neither of which arrives after the other, both are one
pub at_most_antisym : (v w : List ℕ) → v ≼ w → w ≼ v → v ≡ w
at_most_antisym v w (inl p) q = p
at_most_antisym v w (inr p) (inl q) = sym q
at_most_antisym v w (inr p) (inr q) = absurd (below_irrefl v (below_trans p q))

earlier_on : (v w : List ℕ) (a b : ℕ) → Earlier v w → Earlier (v ▹ a) (w ▹ b)
earlier_on [] w a b h = absurd h
earlier_on (c ∷ v) [] a b h = absurd h
earlier_on (c ∷ v) (d ∷ w) a b (inl h) = inl h
earlier_on (c ∷ v) (d ∷ w) a b (inr h) = inr (h.0, earlier_on v w a b h.1)

earlier_last : (v : List ℕ) (a b : ℕ) → a < b → Earlier (v ▹ a) (v ▹ b)
earlier_last [] a b h = inl h
earlier_last (c ∷ v) a b h = inr (refl, earlier_last v a b h)

length-on : (v : List ℕ) (a : ℕ) → length (v ▹ a) ≡ suc (length v)
length-on v a = simp length-append (omega arith)

-- whatever the last letters, the streams before them decide
pub below_on : {v w : List ℕ} (a b : ℕ) → v ≺ w → v ▹ a ≺ w ▹ b
below_on {v} {w} a b (shorter h) = shorter (omega (arith, length-on v a, length-on w b))
below_on {v} {w} a b (earlier e h) = earlier (omega (arith, length-on v a, length-on w b)) (earlier_on v w a b h)

-- and where those are one stream, the last letters do
pub below_last : (v : List ℕ) {a b : ℕ} → a < b → v ▹ a ≺ v ▹ b
below_last v {a} {b} h = earlier (omega (arith, length-on v a, length-on v b)) (earlier_last v a b h)

pub at_most_on : {v w : List ℕ} (a : ℕ) → v ≼ w → v ▹ a ≼ w ▹ a
at_most_on a (inl e) = inl (ap (λ (v : List ℕ). v ▹ a) e)
at_most_on a (inr h) = inr (below_on a a h)

-- the empty stream arrives before every other
pub nil_below : (v : List ℕ) (a : ℕ) → [] ≺ v ▹ a
nil_below v a = shorter (omega (arith, length-on v a))

pub below_nil : (v : List ℕ) → v ≺ [] → ⊥
below_nil v (shorter h) = omega arith
below_nil [] (earlier e h) = h
below_nil (a ∷ v) (earlier e h) = h

pub at_most_nil : (v : List ℕ) → v ≼ [] → v ≡ []
at_most_nil v (inl e) = e
at_most_nil v (inr h) = absurd (below_nil v h)
