-- What each byte is, range by range, and that reading and writing an operation byte are inverse. Assumes nothing.
use Rattle.std.proofs.Common.{Option, Some, None}
use Prim.Native.Nat.{ℕ, ◌+◌, ◌-◌, ◌≤◌, ◌<◌}
use mathlib.Core.Path.{◌≡◌, refl, sym, ap, ◌∙◌}
use mathlib.Core.Bool.{Bool, true, false, cond}
use native.Mathlib.Decide.{dec_lt, dec_le, ℕ_discrete}
use native.Mathlib.Omega.{arith}
use borrow.Author.Tests.{le-leb, lt-leb, lt-ltb, le-ltb, ne_eqb}
use Rattle.ground.specs.Bytes.{in_range}
use Rattle.operations.specs.declared.Kind.{Kind}
use Rattle.operations.specs.declared.Operation.{Operation}
use Rattle.operations.specs.Operation.{byte_is, access_byte, fence_byte, byte_of, HasByte}

-- a byte that is none of the four letters
abbrev pub NoLetter : ℕ → Type 0
NoLetter b = (b ≡ 108 → ⊥) × (b ≡ 76 → ⊥) × (b ≡ 115 → ⊥) × (b ≡ 83 → ⊥)

-- is then what the two ranges say
by_ranges : (b : ℕ) → NoLetter b → (d l : Bool) → in_range 48 57 b ≡ d → in_range 65 70 b ≡ l
    → byte_is b ≡ cond d (Some (Operation.Fence (b - 48))) (cond l (Some (Operation.Fence (b - 65 + 10))) None)
unfolding byte_is
by_ranges b n d l e f = simp (ne_eqb b 108 n.0, ne_eqb b 76 n.1, ne_eqb b 115 n.2, ne_eqb b 83 n.3, e, f)

pub digit_byte : (b : ℕ) → 48 ≤ b → b ≤ 57 → byte_is b ≡ Some (Operation.Fence (b - 48))
digit_byte b low high =
    by_ranges b (omega arith) true false (simp (le-leb 48 b low, le-leb b 57 high)) (simp (lt-leb 65 b (omega arith)))

pub letter_byte : (b : ℕ) → 65 ≤ b → b ≤ 70 → byte_is b ≡ Some (Operation.Fence (b - 65 + 10))
letter_byte b low high =
    by_ranges b (omega arith) false true (simp (le-leb 48 b (omega arith), lt-leb b 57 (omega arith))) (simp (le-leb 65 b low, le-leb b 70 high))

outside : (low high b : ℕ) → (low ≤ b → b ≤ high → ⊥) → in_range low high b ≡ false
outside low high b h = at (dec_le low b) (dec_le b high)
  where
    at : Dec (low ≤ b) → Dec (b ≤ high) → in_range low high b ≡ false
    at (yes l) (yes u) = absurd (h l u)
    at (yes l) (no u) = simp (le-leb low b l, lt-leb b high (omega arith))
    at (no l) u = simp (lt-leb low b (omega arith))

pub no_byte : (b : ℕ) → NoLetter b → (48 ≤ b → b ≤ 57 → ⊥) → (65 ≤ b → b ≤ 70 → ⊥) → byte_is b ≡ None
no_byte b n d l = by_ranges b n false false (outside 48 57 b d) (outside 65 70 b l)

-- the byte of a fence number
pub low_fence : (n : ℕ) → n < 10 → fence_byte n ≡ 48 + n
low_fence n l = simp (lt-ltb n 10 l)

pub high_fence : (n : ℕ) → 10 ≤ n → n < 16 → fence_byte n ≡ 65 + (n - 10)
high_fence n l u = simp (le-ltb n 10 l, lt-ltb n 16 u)

pub no_fence_lem : (n : ℕ) → 16 ≤ n → fence_byte n ≡ 0
no_fence_lem n l = simp (le-ltb n 10 (omega arith), le-ltb n 16 l)

-- reading what was written gives the operation again

pub fence_read : (n : ℕ) → n < 16 → byte_is (fence_byte n) ≡ Some (Operation.Fence n)
fence_read n u = at (dec_lt n 10)
  where
    at : Dec (n < 10) → byte_is (fence_byte n) ≡ Some (Operation.Fence n)
    at (yes l) =
        let e : 48 + n - 48 ≡ n = omega arith in
        ap byte_is (low_fence n l) ∙ digit_byte (48 + n) (omega arith) (omega arith) ∙ ap (λ (m : ℕ). Some (Operation.Fence m)) e
    at (no l) =
        let e : 65 + (n - 10) - 65 + 10 ≡ n = omega arith in
        ap byte_is (high_fence n (omega arith) u) ∙ letter_byte (65 + (n - 10)) (omega arith) (omega arith)
        ∙ ap (λ (m : ℕ). Some (Operation.Fence m)) e

pub access_read : (k : Kind) → byte_is (access_byte k) ≡ Some (Operation.Access k)
unfolding byte_is
access_read Kind.Ld = refl
access_read Kind.Cld = refl
access_read Kind.St = refl
access_read Kind.Cst = refl

pub read_written : (op : Operation) → HasByte op → byte_is (byte_of op) ≡ Some op
read_written (Operation.Access k) h = access_read k
read_written (Operation.Fence n) h = fence_read n h

-- writing what was read gives the byte again

back : Option Operation → ℕ → ℕ
back (Some op) b = byte_of op
back None b = b

letter_back : (k : Kind) (b : ℕ) → b ≡ access_byte k → back (byte_is b) b ≡ b
unfolding back
letter_back k b e =
    ap (λ (x : ℕ). back (byte_is x) x) e ∙ ap (λ (x : Option Operation). back x (access_byte k)) (access_read k) ∙ sym e

range_back : (b : ℕ) → NoLetter b → back (byte_is b) b ≡ b
unfolding back
range_back b n = at (dec_le 48 b) (dec_le b 57) (dec_le 65 b) (dec_le b 70)
  where
    at : Dec (48 ≤ b) → Dec (b ≤ 57) → Dec (65 ≤ b) → Dec (b ≤ 70) → back (byte_is b) b ≡ b
    at (yes l) (yes u) p q =
        let e : 48 + (b - 48) ≡ b = omega arith in
        ap (λ (x : Option Operation). back x b) (digit_byte b l u) ∙ low_fence (b - 48) (omega arith) ∙ e
    at (yes l) (no u) (yes p) (yes q) =
        let e : 65 + (b - 65 + 10 - 10) ≡ b = omega arith in
        ap (λ (x : Option Operation). back x b) (letter_byte b p q) ∙ high_fence (b - 65 + 10) (omega arith) (omega arith) ∙ e
    at (yes l) (no u) (yes p) (no q) = ap (λ (x : Option Operation). back x b) (no_byte b n (λ v w. omega arith) (λ v w. omega arith))
    at (yes l) (no u) (no p) q = ap (λ (x : Option Operation). back x b) (no_byte b n (λ v w. omega arith) (λ v w. omega arith))
    at (no l) u p q = ap (λ (x : Option Operation). back x b) (no_byte b n (λ v w. omega arith) (λ v w. omega arith))

all_back : (b : ℕ) → back (byte_is b) b ≡ b
all_back b = at (ℕ_discrete b 108) (ℕ_discrete b 76) (ℕ_discrete b 115) (ℕ_discrete b 83)
  where
    at : Dec (b ≡ 108) → Dec (b ≡ 76) → Dec (b ≡ 115) → Dec (b ≡ 83) → back (byte_is b) b ≡ b
    at (yes e) p q r = letter_back Kind.Ld b e
    at (no e) (yes p) q r = letter_back Kind.Cld b p
    at (no e) (no p) (yes q) r = letter_back Kind.St b q
    at (no e) (no p) (no q) (yes r) = letter_back Kind.Cst b r
    at (no e) (no p) (no q) (no r) = range_back b (e, p, q, r)

pub written_read : (b : ℕ) (op : Operation) → byte_is b ≡ Some op → byte_of op ≡ b
unfolding back
written_read b op e = sym (ap (λ (x : Option Operation). back x b) e) ∙ all_back b
