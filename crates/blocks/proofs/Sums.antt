-- One's complement sums: one word more, and equal words have equal sums. Assumes nothing.
use Prim.Native.Nat.{ℕ, zero, suc, ◌+◌, ◌-◌, ◌*◌, ◌<◌, ◌≤◌}
use mathlib.Core.Path.{◌≡◌, refl, sym, ap, ap₂, ◌∙◌}
use mathlib.Core.List.{List}
use native.Mathlib.Nat.{add_assoc}
use native.Mathlib.Numerals.{add-one}
use native.Mathlib.Omega.{arith}
use Rattle.ground.specs.Bytes.{at}
use Rattle.blocks.specs.Checksum.{two_bytes, plus, sum_of, word_of, checksum}

-- one word more, read from a list
pub sum_more : (bytes : List ℕ) (from k s w s' : ℕ) → s ≡ sum_of k (word_of (λ (p : ℕ). at bytes (from + p)))
    → w ≡ two_bytes (at bytes (from + 2 * k)) (at bytes (from + 2 * k + 1)) → s' ≡ plus s w
    → s' ≡ sum_of (k + 1) (word_of (λ (p : ℕ). at bytes (from + p)))
unfolding sum_of
sum_more bytes from k s w s' e v h =
    h ∙ ap₂ plus e (v ∙ ap (λ (y : ℕ). two_bytes (at bytes (from + 2 * k)) (at bytes y)) (add_assoc from (2 * k) 1))
    ∙ ap (λ (n : ℕ). sum_of n (word_of (λ (p : ℕ). at bytes (from + p)))) (sym (add-one k))

pub sum_end : (word : ℕ → ℕ) (k n s : ℕ) → s ≡ sum_of k word → k ≤ n → n ≤ k → 65535 - s ≡ 65535 - sum_of n word
sum_end word k n s h u l = let e : k ≡ n = omega arith in ap (λ (x : ℕ). 65535 - x) (h ∙ ap (λ (i : ℕ). sum_of i word) e)

-- sums of equal words are equal
pub sum_same : (n : ℕ) (f g : ℕ → ℕ) → ((k : ℕ) → k < n → f k ≡ g k) → sum_of n f ≡ sum_of n g
unfolding sum_of
sum_same zero f g h = refl
sum_same (suc n) f g h = ap₂ plus (sum_same n f g (λ k l. h k (omega arith))) (h n (omega arith))

-- checks of equal bytes are equal
pub check_same : (f g : ℕ → ℕ) → ((p : ℕ) → p < 510 → f p ≡ g p) → checksum 255 f ≡ checksum 255 g
check_same f g h =
    ap (λ (s : ℕ). 65535 - s)
    (sum_same 255 (word_of f) (word_of g) (λ k l. ap₂ two_bytes (h (2 * k) (omega arith)) (h (2 * k + 1) (omega arith))))
