-- Laws of texts in turn: none and one more, as they are put; the same texts; and how long they are. Assumes nothing.
use Prim.Native.Nat.{ℕ, zero, suc, ◌+◌, ◌*◌, ◌≤◌, ◌<◌}
use mathlib.Core.Path.{◌≡◌, refl, sym, ap, ap₂}
use mathlib.Core.List.{List, ◌++◌}
use native.Mathlib.Numerals.{add-one}
use native.Mathlib.Nat.{suc-mul}
use native.Mathlib.Omega.{arith}
use lib.ListN.{length, length-append}
use Rattle.printing.specs.Putting.{Put}
use Rattle.printing.specs.Turns.{in_turn}
use Rattle.printing.proofs.Putting.{put_none, put_is, put_then}

-- texts put so far, and one more
pub put_no_turn : {b : List ℕ} {at : ℕ} (text : ℕ → List ℕ) → Put b b at at (in_turn text 0)
unfolding in_turn
put_no_turn text = put_none

pub put_one_more : {a b c : List ℕ} {at r t : ℕ} (text : ℕ → List ℕ) (n : ℕ) → Put a b at r (in_turn text n) → Put b c r t (text n)
    → Put a c at t (in_turn text (n + 1))
unfolding in_turn
put_one_more text n p q = put_is (sym (ap (in_turn text) (add-one n))) (put_then p q)

-- texts that agree below n
pub in_turn_same : (text other : ℕ → List ℕ) (n : ℕ) → ((i : ℕ) → i < n → text i ≡ other i) → in_turn text n ≡ in_turn other n
unfolding in_turn
in_turn_same text other zero h = refl
in_turn_same text other (suc n) h =
    ap₂ (λ (x y : List ℕ). x ++ y) (in_turn_same text other n (λ i l. h i (omega arith))) (h n (omega arith))

-- one text more is so much longer
pub length_turn : (text : ℕ → List ℕ) (n : ℕ) → length (in_turn text (suc n)) ≡ length (in_turn text n) + length (text n)
unfolding in_turn
length_turn text n = length-append (in_turn text n) (text n)

-- texts of at most so many bytes each
pub turns_short : (text : ℕ → List ℕ) (n most : ℕ) → ((i : ℕ) → i < n → length (text i) ≤ most) → length (in_turn text n) ≤ n * most
unfolding in_turn
turns_short text zero most h = omega arith
turns_short text (suc n) most h =
    let p : suc n * most ≡ n * most + most = suc-mul n most in
    omega (arith, p, length-append (in_turn text n) (text n), turns_short text n most (λ i l. h i (omega arith)), h n (omega arith))
