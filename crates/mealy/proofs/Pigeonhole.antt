-- Pigeonhole: n numbers below k, no two of which are equal, are at most k. Assumes nothing.
use Prim.Native.Nat.{ℕ, zero, suc, ◌≤◌, ◌<◌, zero-le, suc-le-suc}
use mathlib.Core.Path.{◌≡◌}
use native.Mathlib.Omega.{arith}
use native.Mathlib.Decide.{ℕ_discrete}

-- y in the place of x where x is k
put : {x k : ℕ} → Dec (x ≡ k) → ℕ → ℕ
put {x} (yes e) y = y
put {x} (no e) y = x

put_low : {x k : ℕ} (d : Dec (x ≡ k)) (y : ℕ) → x < suc k → y < suc k → (x ≡ y → ⊥) → put d y < k
unfolding put
put_low (yes e) y p q h = omega arith
put_low (no e) y p q h = omega arith

put_apart : {x z k : ℕ} (d : Dec (x ≡ k)) (e : Dec (z ≡ k)) (y : ℕ) → (x ≡ z → ⊥) → (x ≡ y → ⊥) → (z ≡ y → ⊥) → put d y ≡ put e y → ⊥
unfolding put
put_apart (yes d) (yes e) y p q r h = omega arith
put_apart (yes d) (no e) y p q r h = omega arith
put_apart (no d) (yes e) y p q r h = omega arith
put_apart (no d) (no e) y p q r h = p h

pub pigeonhole : (n k : ℕ) (f : (i : ℕ) → i < n → ℕ) → ((i : ℕ) (p : i < n) → f i p < k)
    → ((i j : ℕ) (p : i < n) (q : j < n) → i < j → f i p ≡ f j q → ⊥) → n ≤ k
pigeonhole zero k f low apart = zero-le
pigeonhole (suc n) zero f low apart = absurd (omega (arith, low 0 (omega arith)))
pigeonhole (suc n) (suc k) f low apart =
    let up : (i : ℕ) → i < n → i < suc n = λ i p. omega arith in
    let last : n < suc n = omega arith in
    let y : ℕ = f n last in
    suc-le-suc
    (pigeonhole n k (λ i p. put (ℕ_discrete (f i (up i p)) k) y)
    (λ i p. put_low (ℕ_discrete (f i (up i p)) k) y (low i (up i p)) (low n last) (apart i n (up i p) last p))
    (λ i j p q l.
    put_apart (ℕ_discrete (f i (up i p)) k) (ℕ_discrete (f j (up j q)) k) y (apart i j (up i p) (up j q) l)
    (apart i n (up i p) last p)
    (apart j n (up j q) last q)))
