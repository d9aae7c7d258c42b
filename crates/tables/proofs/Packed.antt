-- Laws of numbers read as cells of two bits: what a packed number holds, and that its cells determine it. Assumes nothing.
use Prim.Native.Nat.{ℕ, zero, suc, ◌+◌, ◌*◌, ◌-◌, ◌/◌, ◌%◌, ◌^◌, ◌≤◌, ◌<◌}
use mathlib.Core.Path.{◌≡◌, refl, sym, ap, ap₂, ◌∙◌}
use native.Mathlib.Nat.{mod-lt, mod-mod, mod-one, mod-eq_of_lt, div-eq_of_lt, zero-add, add-mul-div_left, add-mul-div_right}
use native.Mathlib.Nat.{add-mul-mod_self_left, mul_comm, mul_left_comm, add_comm}
use native.Mathlib.Decide.{dec_lt}
use native.Mathlib.Omega.{arith}
use lib.Arith.{digits_lt, mod-mul}
use lib.Pow.{pow_pos, pow_mono, pow-add}
use Rattle.tables.specs.Cells.{digit, packed}

-- one place up is four times as much
four : (n : ℕ) → 2 ^ (2 * suc n) ≡ 4 * 2 ^ (2 * n)
four n =
    let e : 2 * suc n ≡ 2 * n + 2 = omega arith in
    let p : 2 ^ (2 * n + 2) ≡ 2 ^ (2 * n) * 4 = pow-add 2 (2 * n) 2 in
    ap (λ (k : ℕ). 2 ^ k) e ∙ p ∙ mul_comm (2 ^ (2 * n)) 4

-- a cell on top stays below the next place, and below any place above that
pub more_below : (p d n m : ℕ) → p < 2 ^ (2 * n) → d < 4 → n < m → p + d * 2 ^ (2 * n) < 2 ^ (2 * m)
more_below p d n m lp ld h =
    let up : 2 ^ (2 * suc n) ≤ 2 ^ (2 * m) = pow_mono (omega arith) in
    omega (arith, four n, digits_lt {q = d} {m = 4} {r = p} {c = 2 ^ (2 * n)} ld lp)

-- nothing stands above the cells that were packed
pub packed_below : (f : ℕ → ℕ) (n : ℕ) → packed f n < 2 ^ (2 * n)
packed_below f zero = omega arith
packed_below f (suc n) = more_below (packed f n) (f n % 4) n (suc n) (packed_below f n) (mod-lt (f n) (omega arith)) (omega arith)

-- two functions that agree below n pack the same
pub packed_cong : (f g : ℕ → ℕ) (n : ℕ) → ((i : ℕ) → i < n → f i ≡ g i) → packed f n ≡ packed g n
packed_cong f g zero h = refl
packed_cong f g (suc n) h =
    ap₂ (λ (p d : ℕ). p + d % 4 * 2 ^ (2 * n)) (packed_cong f g n (λ i l. h i (omega arith))) (h n (omega arith))

-- a cell added above leaves a lower one as it was
digit_low : (p d i k : ℕ) → digit (p + d * 2 ^ (2 * (i + suc k))) i ≡ digit p i
digit_low p d i k =
    let P : ℕ = 2 ^ (2 * i) in
    let K : ℕ = 2 ^ (2 * k) in
    let s : 2 * (i + suc k) ≡ 2 * i + (2 * suc k) = omega arith in
    let e : 2 ^ (2 * (i + suc k)) ≡ P * (4 * K) =
    ap (λ (m : ℕ). 2 ^ m) s ∙ pow-add 2 (2 * i) (2 * suc k) ∙ ap (λ (m : ℕ). P * m) (four k) in
    let q : d * (P * (4 * K)) ≡ P * (4 * (d * K)) = mul_left_comm d P (4 * K) ∙ ap (λ (m : ℕ). P * m) (mul_left_comm d 4 K) in
    let a : (p + P * (4 * (d * K))) / P ≡ p / P + 4 * (d * K) = add-mul-div_left p (4 * (d * K)) (pow_pos (2 * i)) in
    ap (λ (m : ℕ). (p + d * m) / P % 4) e
    ∙ ap (λ (m : ℕ). (p + m) / P % 4) q
    ∙ ap (λ (m : ℕ). m % 4) a
    ∙ add-mul-mod_self_left (p / P) 4 (d * K)

-- a cell below a power is found again
digit_top : (p d n : ℕ) → p < 2 ^ (2 * n) → d < 4 → digit (p + d * 2 ^ (2 * n)) n ≡ d
digit_top p d n lp ld =
    let P : ℕ = 2 ^ (2 * n) in
    ap (λ (m : ℕ). m % 4) (add-mul-div_right p d (pow_pos (2 * n)) ∙ ap (λ (m : ℕ). m + d) (div-eq_of_lt lp) ∙ zero-add d)
    ∙ mod-eq_of_lt ld

-- each packed cell is found again
pub digit_packed : (f : ℕ → ℕ) (n i : ℕ) → i < n → digit (packed f n) i ≡ f i % 4
digit_packed f zero i l = absurd (omega arith)
digit_packed f (suc n) i l = at (λ below. digit_packed f n i below) (dec_lt i n)
  where
    at : (i < n → digit (packed f n) i ≡ f i % 4) → Dec (i < n) → digit (packed f (suc n)) i ≡ f i % 4
    at lower (yes below) =
        let k : ℕ = n - suc i in
        let e : n ≡ i + suc k = omega arith in
        ap (λ (m : ℕ). digit (packed f n + f n % 4 * 2 ^ (2 * m)) i) e
        ∙ digit_low (packed f n) (f n % 4) i k
        ∙ lower below
    at lower (no above) =
        let e : i ≡ n = omega arith in
        ap (λ (m : ℕ). digit (packed f (suc n)) m) e
        ∙ digit_top (packed f n) (f n % 4) n (packed_below f n) (mod-lt (f n) (omega arith))
        ∙ ap (λ (m : ℕ). f m % 4) (sym e)

-- the cells of a number, packed, are the number as far as they go
packed_digits : (t n : ℕ) → packed (digit t) n ≡ t % 2 ^ (2 * n)
packed_digits t zero = sym (mod-one t)
packed_digits t (suc n) =
    let P : ℕ = 2 ^ (2 * n) in
    ap₂ (λ (p d : ℕ). p + d * P) (packed_digits t n) (mod-mod (t / P) 4)
    ∙ add_comm (t % P) (t / P % 4 * P)
    ∙ sym (mod-mul t {m = 4} {c = P} (omega arith) (pow_pos (2 * n)))
    ∙ ap (λ (m : ℕ). t % m) (sym (four n))

-- a number with no bit beyond its cells is what its cells pack to
pub packed_own : (t n : ℕ) → t < 2 ^ (2 * n) → packed (digit t) n ≡ t
packed_own t n l = packed_digits t n ∙ mod-eq_of_lt l
