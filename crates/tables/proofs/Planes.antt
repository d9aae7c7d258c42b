-- Cells as two planes of bits, the higher bits and the lower bits of all cells: what bitwise operations on whole planes do to each cell.
-- Assumes nothing.
use Prim.Native.Nat.{ℕ, zero, suc, ◌+◌, ◌*◌, ◌-◌, ◌/◌, ◌%◌, ◌^◌, ◌≤◌, ◌<◌, max, min}
use mathlib.Core.Path.{◌≡◌, refl, sym, ap, ap₂, subst, ◌∙◌}
use mathlib.Core.Bool.{Bool, true, false, cond}
use native.Mathlib.Nat.{add-mul, mul_assoc, add_comm, mod-eq_of_lt, mod-lt, div-div-eq-div-mul, mul_comm}
use native.Mathlib.Omega.{arith}
use lib.Bits.{bit_and, bit_or, bit_xor, and_block, or_block, xor_block, and_lt, or_lt, xor_lt, and_shr, and_mod, and_mask, and_le_r}
use lib.Dec.{ltb}
use Rattle.tables.specs.Cells.{digit, packed}
use Rattle.tables.specs.inner.Planes.{ones, over, over_plane}
use Rattle.tables.proofs.Packed.{packed_below, packed_cong, packed_own, digit_packed}

-- an operation that goes block by block goes cell by cell
module _ (op : ℕ → ℕ → ℕ) (none : op 0 0 ≡ 0)
    (block : (k a b r s : ℕ) → r < 2 ^ k → s < 2 ^ k → op (a * 2 ^ k + r) (b * 2 ^ k + s) ≡ op a b * 2 ^ k + op r s)
    (below : (k a b : ℕ) → a < 2 ^ k → b < 2 ^ k → op a b < 2 ^ k) where
  cellwise : (f g : ℕ → ℕ) (n : ℕ) → op (packed f n) (packed g n) ≡ packed (λ (i : ℕ). op (f i % 4) (g i % 4)) n
  cellwise f g zero = none
  cellwise f g (suc n) =
      ap₂ op (add_comm (packed f n) (f n % 4 * 2 ^ (2 * n))) (add_comm (packed g n) (g n % 4 * 2 ^ (2 * n)))
      ∙ block (2 * n) (f n % 4) (g n % 4) (packed f n) (packed g n) (packed_below f n) (packed_below g n)
      ∙ add_comm (op (f n % 4) (g n % 4) * 2 ^ (2 * n)) (op (packed f n) (packed g n))
      ∙ ap₂ (λ (p d : ℕ). p + d * 2 ^ (2 * n)) (cellwise f g n)
      (sym (mod-eq_of_lt (below 2 (f n % 4) (g n % 4) (mod-lt (f n) (omega arith)) (mod-lt (g n) (omega arith)))))

-- a plane holds a bit in each cell: the higher bits of a number's cells, the lower ones, those that say where one number exceeds another
abbrev highs : ℕ → ℕ → ℕ
highs t i = digit t i / 2

abbrev lows : ℕ → ℕ → ℕ
lows t i = digit t i % 2

abbrev overs : ℕ → ℕ → ℕ → ℕ
overs a b i = over (digit a i) (digit b i)

abbrev Bits : (ℕ → ℕ) → Type 0
Bits f = (i : ℕ) → f i < 2

-- on bits the three operations are the lower, the higher, and what is left to 1
and_bit : (x y : ℕ) → x < 2 → y < 2 → bit_and (x % 4) (y % 4) ≡ min x y
and_bit zero zero l m = refl
and_bit zero (suc zero) l m = refl
and_bit (suc zero) zero l m = refl
and_bit (suc zero) (suc zero) l m = refl
and_bit zero (suc (suc y)) l m = absurd (omega arith)
and_bit (suc zero) (suc (suc y)) l m = absurd (omega arith)
and_bit (suc (suc x)) y l m = absurd (omega arith)

or_bit : (x y : ℕ) → x < 2 → y < 2 → bit_or (x % 4) (y % 4) ≡ max x y
or_bit zero zero l m = refl
or_bit zero (suc zero) l m = refl
or_bit (suc zero) zero l m = refl
or_bit (suc zero) (suc zero) l m = refl
or_bit zero (suc (suc y)) l m = absurd (omega arith)
or_bit (suc zero) (suc (suc y)) l m = absurd (omega arith)
or_bit (suc (suc x)) y l m = absurd (omega arith)

not_bit : (x : ℕ) → x < 2 → bit_xor (x % 4) (1 % 4) ≡ 1 - x
not_bit zero l = refl
not_bit (suc zero) l = refl
not_bit (suc (suc x)) l = absurd (omega arith)

module _ (f g : ℕ → ℕ) (bf : Bits f) (bg : Bits g) (n : ℕ) where
  and_planes : bit_and (packed f n) (packed g n) ≡ packed (λ (i : ℕ). min (f i) (g i)) n
  and_planes = cellwise bit_and refl and_block and_lt f g n ∙ packed_cong _ _ n (λ i l. and_bit (f i) (g i) (bf i) (bg i))

  or_planes : bit_or (packed f n) (packed g n) ≡ packed (λ (i : ℕ). max (f i) (g i)) n
  or_planes = cellwise bit_or refl or_block or_lt f g n ∙ packed_cong _ _ n (λ i l. or_bit (f i) (g i) (bf i) (bg i))

not_plane : (f : ℕ → ℕ) → Bits f → (n : ℕ) → bit_xor (packed f n) (packed (λ (i : ℕ). 1) n) ≡ packed (λ (i : ℕ). 1 - f i) n
not_plane f bf n = cellwise bit_xor refl xor_block xor_lt f (λ (i : ℕ). 1) n ∙ packed_cong _ _ n (λ i l. not_bit (f i) (bf i))

ones_digit : (i : ℕ) → i < 16 → digit ones i ≡ 1
ones_digit i l = digit_packed (λ (j : ℕ). 1) 16 i l

-- a number is known by its cells
by_cells : (t : ℕ) (f : ℕ → ℕ) → t < 2 ^ (2 * 16) → ((i : ℕ) → i < 16 → digit t i ≡ f i) → t ≡ packed f 16
by_cells t f l h = sym (packed_own t 16 l) ∙ packed_cong (digit t) f 16 h

-- one plane of a number, taken with the ones
plane_digit : (t i : ℕ) → i < 16 → digit (bit_and t ones) i ≡ t / 2 ^ (2 * i) % 2
plane_digit t i l =
    ap (λ (m : ℕ). m % 4) (and_shr t ones (2 * i))
    ∙ and_mod (t / 2 ^ (2 * i)) (ones / 2 ^ (2 * i)) 2
    ∙ ap (λ (m : ℕ). bit_and (t / 2 ^ (2 * i) % 4) m) (ones_digit i l)
    ∙ and_mask (t / 2 ^ (2 * i) % 4) 1
    ∙ twice (t / 2 ^ (2 * i))
  where
    twice : (x : ℕ) → x % 4 % 2 ≡ x % 2
    twice x = omega arith

plane_below : (t : ℕ) → bit_and t ones < 2 ^ (2 * 16)
plane_below t = omega (arith, and_le_r t ones)

low_plane : (t : ℕ) → bit_and t ones ≡ packed (lows t) 16
low_plane t = by_cells (bit_and t ones) _ (plane_below t) (λ i l. plane_digit t i l ∙ twice (t / 2 ^ (2 * i)))
  where
    twice : (x : ℕ) → x % 2 ≡ x % 4 % 2
    twice x = omega arith

high_plane : (t : ℕ) → bit_and (t / 2) ones ≡ packed (highs t) 16
high_plane t =
    by_cells (bit_and (t / 2) ones) _ (plane_below (t / 2))
    (λ i l. plane_digit (t / 2) i l ∙ ap (λ (m : ℕ). m % 2) (halves i) ∙ upper (t / 2 ^ (2 * i)))
  where
    halves : (i : ℕ) → t / 2 / 2 ^ (2 * i) ≡ t / 2 ^ (2 * i) / 2
    halves i =
        div-div-eq-div-mul t 2 (2 ^ (2 * i)) ∙ ap (λ (m : ℕ). t / m) (mul_comm 2 (2 ^ (2 * i)))
        ∙ sym (div-div-eq-div-mul t (2 ^ (2 * i)) 2)

    upper : (x : ℕ) → x / 2 % 2 ≡ x % 4 / 2
    upper x = omega arith

-- two planes make cells again
joined_planes : (h l : ℕ → ℕ) → Bits h → Bits l → (n : ℕ) → 2 * packed h n + packed l n ≡ packed (λ (i : ℕ). 2 * h i + l i) n
joined_planes h l bh bl zero = refl
joined_planes h l bh bl (suc n) =
    ap₂ (λ (x y : ℕ). 2 * (packed h n + x * 2 ^ (2 * n)) + (packed l n + y * 2 ^ (2 * n)))
    (mod-eq_of_lt (omega (arith, bh n))) (mod-eq_of_lt (omega (arith, bl n)))
    ∙ regroup (packed h n) (packed l n) (h n) (l n) (2 ^ (2 * n))
    ∙ ap₂ (λ (p d : ℕ). p + d * 2 ^ (2 * n)) (joined_planes h l bh bl n) (sym (mod-eq_of_lt (omega (arith, bh n, bl n))))
  where
    regroup : (p q a b m : ℕ) → 2 * (p + a * m) + (q + b * m) ≡ 2 * p + q + (2 * a + b) * m
    regroup p q a b m = omega (arith, add-mul (2 * a) b m, mul_assoc 2 a m)

-- what holds of 0, 1, 2 and 3 holds of every cell
below_four : (P : ℕ → Type 0) → P 0 → P 1 → P 2 → P 3 → (n : ℕ) → n < 4 → P n
below_four P a b c d zero l = a
below_four P a b c d (suc zero) l = b
below_four P a b c d (suc (suc zero)) l = c
below_four P a b c d (suc (suc (suc zero))) l = d
below_four P a b c d (suc (suc (suc (suc n)))) l = absurd (omega arith)

-- the bits say what the numbers do
abbrev OverIs : ℕ → ℕ → Type 0
OverIs x y = over x y ≡ cond (ltb y x) 1 0

over_is : (x y : ℕ) → x < 4 → y < 4 → OverIs x y
over_is x y lx ly =
    below_four (λ (x : ℕ). OverIs x y)
    (first 0 refl refl refl refl) (first 1 refl refl refl refl) (first 2 refl refl refl refl) (first 3 refl refl refl refl) x lx
  where
    first : (x : ℕ) → OverIs x 0 → OverIs x 1 → OverIs x 2 → OverIs x 3 → OverIs x y
    first x a b c d = below_four (OverIs x) a b c d y ly

bit_min : (p q : ℕ) → min p (1 - q) ≤ 1
bit_min p q = omega arith

bit_max : (p q : ℕ) → p ≤ 1 → q ≤ 1 → max p q < 2
bit_max p q l m = omega arith

over_bit : (x y : ℕ) → over x y < 2
over_bit x y = bit_max _ _ (bit_min (x / 2) (y / 2)) (bit_min (min (max (x / 2) (1 - y / 2)) (x % 2)) (y % 2))

half_bit : (t i : ℕ) → highs t i < 2
half_bit t i = omega (arith, mod-lt (t / 2 ^ (2 * i)) {m = 4} (omega arith))

low_bit : (t i : ℕ) → lows t i < 2
low_bit t i = mod-lt _ (omega arith)

left_bit : (x : ℕ) → 1 - x < 2
left_bit x = omega arith

min_bit : (p q : ℕ) → q < 2 → min p q < 2
min_bit p q l = omega arith

-- one bit where a test passes, the other where it does not
abbrev pick : ℕ → ℕ → ℕ → ℕ
pick g x y = max (min x g) (min y (1 - g))

pick_bit : (g p q : ℕ) → p < 2 → q < 2 → pick g p q < 2
pick_bit g p q lp lq = omega arith

pick_cell : (t : Bool) (x y : ℕ) → x < 4 → y < 4
    → 2 * pick (cond t 1 0) (x / 2) (y / 2) + pick (cond t 1 0) (x % 2) (y % 2) ≡ cond t x y
pick_cell true x y lx ly = omega arith
pick_cell false x y lx ly = omega arith

module _ (a b : ℕ) where
  -- where the higher bit of b is not set, where its lower bit is not, and where the higher bit of a is set or that of b is not
  no_high : ℕ → ℕ
  no_high i = 1 - highs b i

  no_low : ℕ → ℕ
  no_low i = 1 - lows b i

  not_below : ℕ → ℕ
  not_below i = max (highs a i) (no_high i)

  -- the bits that say where a exceeds b, as the code computes them
  exceeds_plane : bit_or (bit_and (bit_and (a / 2) ones) (bit_xor (bit_and (b / 2) ones) ones))
      (bit_and (bit_and (bit_or (bit_and (a / 2) ones) (bit_xor (bit_and (b / 2) ones) ones)) (bit_and a ones)) (bit_xor (bit_and b ones) ones))
      ≡ over_plane a b
  unfolding no_high no_low not_below
  exceeds_plane =
      let nh = ap (λ (m : ℕ). bit_xor m ones) (high_plane b) ∙ not_plane (highs b) (half_bit b) 16 in
      let nl = ap (λ (m : ℕ). bit_xor m ones) (low_plane b) ∙ not_plane (lows b) (low_bit b) 16 in
      let first = ap₂ bit_and (high_plane a) nh ∙ and_planes (highs a) no_high (half_bit a) (λ i. left_bit (highs b i)) 16 in
      let either = ap₂ bit_or (high_plane a) nh ∙ or_planes (highs a) no_high (half_bit a) (λ i. left_bit (highs b i)) 16 in
      let low-too = ap₂ bit_and either (low_plane a)
      ∙ and_planes not_below (lows a)
      (λ i. bit_max (highs a i) (no_high i) (omega (arith, half_bit a i)) (omega arith)) (low_bit a) 16 in
      let second = ap₂ bit_and low-too nl
      ∙ and_planes (λ (i : ℕ). min (not_below i) (lows a i)) no_low
      (λ i. min_bit (not_below i) (lows a i) (low_bit a i)) (λ i. left_bit (lows b i)) 16 in
      ap₂ bit_or first second
      ∙ or_planes (λ (i : ℕ). min (highs a i) (no_high i)) (λ (i : ℕ). min (min (not_below i) (lows a i)) (no_low i))
      (λ i. min_bit (highs a i) (no_high i) (left_bit (highs b i)))
      (λ i. min_bit (min (not_below i) (lows a i)) (no_low i) (left_bit (lows b i))) 16

-- one plane picked from two by a third, as the code does it
abbrev pick_bits : ℕ → ℕ → ℕ → ℕ
pick_bits at x y = bit_or (bit_and x at) (bit_and y (bit_xor at ones))

picked_plane : (g f h : ℕ → ℕ) → Bits g → Bits f → Bits h
    → pick_bits (packed g 16) (packed f 16) (packed h 16) ≡ packed (λ (i : ℕ). pick (g i) (f i) (h i)) 16
picked_plane g f h bg bf bh =
    ap₂ bit_or (and_planes f g bf bg 16)
    (ap (bit_and (packed h 16)) (not_plane g bg 16) ∙ and_planes h (λ (i : ℕ). 1 - g i) bh (λ i. left_bit (g i)) 16)
    ∙ or_planes (λ (i : ℕ). min (f i) (g i)) (λ (i : ℕ). min (h i) (1 - g i))
    (λ i. min_bit (f i) (g i) (bg i)) (λ i. min_bit (h i) (1 - g i) (left_bit (g i))) 16

-- the cells of x where a exceeds b, and of y elsewhere: their two planes, picked and joined
module _ (a b x y : ℕ) where
  abbrev pub picked_highs : ℕ → ℕ
  picked_highs i = pick (overs a b i) (highs x i) (highs y i)

  abbrev pub picked_lows : ℕ → ℕ
  picked_lows i = pick (overs a b i) (lows x i) (lows y i)

  picked_high : pick_bits (over_plane a b) (bit_and (x / 2) ones) (bit_and (y / 2) ones) ≡ packed picked_highs 16
  picked_high =
      ap₂ (pick_bits (over_plane a b)) (high_plane x) (high_plane y)
      ∙ picked_plane (overs a b) (highs x) (highs y) (λ i. over_bit (digit a i) (digit b i)) (half_bit x) (half_bit y)

  picked_low : pick_bits (over_plane a b) (bit_and x ones) (bit_and y ones) ≡ packed picked_lows 16
  picked_low =
      ap₂ (pick_bits (over_plane a b)) (low_plane x) (low_plane y)
      ∙ picked_plane (overs a b) (lows x) (lows y) (λ i. over_bit (digit a i) (digit b i)) (low_bit x) (low_bit y)

  pub picked_joined : 2 * packed picked_highs 16 + packed picked_lows 16
      ≡ packed (λ (i : ℕ). cond (ltb (digit b i) (digit a i)) (digit x i) (digit y i)) 16
  picked_joined =
      joined_planes picked_highs picked_lows
      (λ i. pick_bit _ _ _ (half_bit x i) (half_bit y i)) (λ i. pick_bit _ _ _ (low_bit x i) (low_bit y i)) 16
      ∙ packed_cong _ _ 16 (λ i l.
      ap (λ (g : ℕ). 2 * pick g (highs x i) (highs y i) + pick g (lows x i) (lows y i))
      (over_is (digit a i) (digit b i) (mod-lt _ (omega arith)) (mod-lt _ (omega arith)))
      ∙ pick_cell (ltb (digit b i) (digit a i)) (digit x i) (digit y i) (mod-lt _ (omega arith)) (mod-lt _ (omega arith)))

-- sixteen cells fit 32 bits
pub plane_fits : (t : ℕ) (f : ℕ → ℕ) → t ≡ packed f 16 → t < 2 ^ 32
plane_fits t f e = subst (λ (n : ℕ). n < 2 ^ 32) (sym e) (packed_below f 16)

-- the same for planes that the code has at hand

pub exceeds_from : (a b ah bh al bl : ℕ) → ah ≡ bit_and (a / 2) ones → bh ≡ bit_and (b / 2) ones → al ≡ bit_and a ones → bl ≡ bit_and b ones
    → bit_or (bit_and ah (bit_xor bh ones)) (bit_and (bit_and (bit_or ah (bit_xor bh ones)) al) (bit_xor bl ones)) ≡ over_plane a b
exceeds_from a b ah bh al bl p q r s =
    (λ d. bit_or (bit_and (p d) (bit_xor (q d) ones)) (bit_and (bit_and (bit_or (p d) (bit_xor (q d) ones)) (r d)) (bit_xor (s d) ones)))
    ∙ exceeds_plane a b

module _ (a b x y at : ℕ) (is : at ≡ over_plane a b) where
  pub high_from : (p q : ℕ) → p ≡ bit_and (x / 2) ones → q ≡ bit_and (y / 2) ones
      → bit_or (bit_and p at) (bit_and q (bit_xor at ones)) ≡ packed (picked_highs a b x y) 16
  high_from p q e f = (λ d. pick_bits (is d) (e d) (f d)) ∙ picked_high a b x y

  pub low_from : (p q : ℕ) → p ≡ bit_and x ones → q ≡ bit_and y ones
      → bit_or (bit_and p at) (bit_and q (bit_xor at ones)) ≡ packed (picked_lows a b x y) 16
  low_from p q e f = (λ d. pick_bits (is d) (e d) (f d)) ∙ picked_low a b x y
