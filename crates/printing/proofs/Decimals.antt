-- Laws of numbers in decimal: digits enough are as good as more, so the last digit is the remainder by ten. Assumes nothing.
use Prim.Native.Nat.{ℕ, zero, suc, ◌+◌, ◌-◌, ◌*◌, ◌/◌, ◌%◌, ◌^◌, ◌≤◌, ◌<◌}
use mathlib.Core.Path.{◌≡◌, refl, sym, ap, subst, ◌∙◌}
use mathlib.Core.Bool.{Bool, true, false, cond}
use mathlib.Core.List.{List, [], ◌∷◌, ◌++◌, append_assoc, append-nil}
use native.Mathlib.Omega.{arith}
use native.Mathlib.Nat.{pow-suc, lt_trans, le_of_suc-le-suc}
use borrow.Author.Tests.{lt-ltb, le-ltb, ltb-true, ltb-false}
use lib.Dec.{ltb, lit<}
use lib.ListN.{length, take, drop, set, length-append, length-drop, length-set, drop_of_length-le}
use lib.Seq.{take_all}
use Rattle.printing.specs.Decimal.{digit, digits, decimal}

-- digits enough are as good as more
enough : (k j n : ℕ) → n ≤ k → n ≤ j → digits (suc k) n ≡ digits (suc j) n
unfolding digits
enough zero zero n hk hj = refl
enough zero (suc j) n hk hj = rw (lt-ltb n 10 (omega arith))
enough (suc k) zero n hk hj = rw (lt-ltb n 10 (omega arith))
enough (suc k) (suc j) n hk hj = by (ltb n 10) refl (enough k j (n / 10))
  where
    by : (q : Bool) → ltb n 10 ≡ q → (n / 10 ≤ k → n / 10 ≤ j → digits (suc k) (n / 10) ≡ digits (suc j) (n / 10))
        → cond q (digit n) (digits (suc k) (n / 10) ++ digit (n % 10)) ≡ cond q (digit n) (digits (suc j) (n / 10) ++ digit (n % 10))
    by true e rest = refl
    by false e rest =
        let l : 10 ≤ n = ltb-false n 10 e in
        ap (λ (x : List ℕ). x ++ digit (n % 10)) (rest (omega arith) (omega arith))

pub one_digit : (n : ℕ) → n < 10 → decimal n ≡ digit n
unfolding decimal digits
one_digit n l = rw (lt-ltb n 10 l)

pub more_digits : (n : ℕ) → 10 ≤ n → decimal n ≡ decimal (n / 10) ++ digit (n % 10)
unfolding decimal digits
more_digits zero l = absurd (omega arith)
more_digits (suc n) l =
    rw (le-ltb (suc n) 10 l)
    (ap (λ (x : List ℕ). x ++ digit (suc n % 10)) (enough n (suc n / 10) (suc n / 10) (omega arith) (omega arith)))

-- how many digits a number has
pub length_digits : (k n : ℕ) → n < 10 ^ suc k → length (decimal n) ≤ suc k
length_digits zero n l = omega (arith, ap length (one_digit n l))
length_digits (suc k) n l = by (ltb n 10) refl (length_digits k (n / 10))
  where
    p : 10 ^ suc (suc k) ≡ 10 ^ suc k * 10
    p = pow-suc _ _

    by : (q : Bool) → ltb n 10 ≡ q → (n / 10 < 10 ^ suc k → length (decimal (n / 10)) ≤ suc k) → length (decimal n) ≤ suc (suc k)
    by true e rest = omega (arith, ap length (one_digit n (ltb-true n 10 e)))
    by false e rest =
        omega (arith, rest (omega (arith, p, l)), ap length (more_digits n (ltb-false n 10 e)), length-append (decimal (n / 10)) (digit (n % 10)))

-- digits made from the last to the first: those of `left` are still to be made, the last of them at `first`
pub record LastDigits (number left first : ℕ) (digits : List ℕ) : Type 0 where
  pub inside : first < 20
  pub long : length digits ≡ 20
  pub few : left < 10 ^ suc first
  pub whole : decimal number ≡ decimal left ++ drop (suc first) digits

pub last_none : (number : ℕ) (digits : List ℕ) → number < 2 ^ 64 → length digits ≡ 20 → LastDigits number number 19 digits
last_none number digits l long = record {
  inside = omega arith;
  long = long;
  few = lt_trans l (lit< tt);
  whole = sym (ap (λ (x : List ℕ). decimal number ++ x) (drop_of_length-le digits {i = 20} (omega arith)) ∙ append-nil (decimal number));
}

-- a digit goes before those that stand behind it
ahead : (digits : List ℕ) (first d : ℕ) → first < length digits → drop first (set digits first d) ≡ d ∷ drop (suc first) digits
ahead [] first d h = absurd (omega arith)
ahead (x ∷ digits) zero d h = refl
ahead (x ∷ digits) (suc first) d h = ahead digits first d (le_of_suc-le-suc h)

module _ {number left : ℕ} {digits : List ℕ} where
  pub last_more : (first : ℕ) → LastDigits number left first digits → 10 ≤ left
      → LastDigits number (left / 10) (first - 1) (set digits first (48 + left % 10))
  last_more zero m l = absurd (omega (arith, m.few))
  last_more (suc first) m l =
      let d : ℕ = 48 + left % 10 in
      let rest : List ℕ = drop (suc (suc first)) digits in
      let less : first ≡ suc first - 1 = omega arith in
      subst (λ (k : ℕ). LastDigits number (left / 10) k (set digits (suc first) d)) less (record {
        inside = omega (arith, m.inside);
        long = simp length-set m.long;
        few = omega (arith, m.few, pow-suc 10 (suc first));
        whole =
            m.whole
            ∙ ap (λ (x : List ℕ). x ++ rest) (more_digits left l)
            ∙ append_assoc (decimal (left / 10)) (digit (left % 10)) rest
            ∙ ap (λ (x : List ℕ). decimal (left / 10) ++ x) (sym (ahead digits (suc first) d (omega (arith, m.inside, m.long))));
      })

  pub last_left : (first : ℕ) → LastDigits number left first digits → 10 ≤ left → 1 ≤ first
  last_left zero m l = absurd (omega (arith, m.few))
  last_left (suc first) m l = omega arith

  -- the digits from the first on, as a part of the array
  pub last_all : (first : ℕ) → LastDigits number left first digits → left < 10
      → take (20 - first) (drop first (set digits first (48 + left))) ≡ decimal number
  last_all first m l =
      let d : ℕ = 48 + left in
      let all : List ℕ = set digits first d in
      take_all (20 - first) (drop first all) (omega (arith, length-drop first all, length-set digits first d, m.long))
      ∙ ahead digits first d (omega (arith, m.inside, m.long))
      ∙ sym (m.whole ∙ ap (λ (x : List ℕ). x ++ drop (suc first) digits) (one_digit left l))
