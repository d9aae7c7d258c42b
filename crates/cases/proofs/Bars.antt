-- Loops over fields and over digits: what is left of the input decides. Assumes nothing.
use Rattle.std.proofs.Common.{◌≡◌, ℕ, zero, suc, ◌+◌, ◌-◌, ◌*◌, ◌%◌, ◌^◌, ◌<◌, ◌≤◌, List, [], ◌∷◌, length, take, drop, sym, refl, ap, ◌∙◌, not-suc-le-zero, arith, length-drop, drop_of_length-le, take_all, drop-drop, le-leb}
use Rattle.std.specs.List.{fold}
use borrow.Author.Tests.{lt-leb}
use Rattle.ground.specs.Search.{index_of}
use Rattle.cases.specs.Fields.{first_of, others_of, from, with_digit, number_in}

-- the bar behind a place, and what stands behind it
pub next_one : (l : List ℕ) (at end : ℕ) → end ≡ at + index_of 124 (drop at l) → drop (end + 1) l ≡ others_of (drop at l)
next_one l at end e =
    let i : ℕ = index_of 124 (drop at l) in
    let same : end + 1 ≡ at + suc i = omega (arith, e) in
    ap (λ (k : ℕ). drop k l) same ∙ sym (drop-drop (suc i) at l)

pub next_none : (l : List ℕ) (at end : ℕ) → end ≡ at + index_of 124 (drop at l) → length l ≤ end → drop end l ≡ others_of (drop at l)
next_none l at end e h =
    drop_of_length-le l h ∙ sym (drop_of_length-le l {i = end + 1} (omega (arith, h))) ∙ next_one l at end e

-- the loop over fields: as many are left to pass over
one_on : (k : ℕ) (s : List ℕ) → 0 < k → from (k - 1) (others_of s) ≡ from k s
one_on zero s h = absurd (not-suc-le-zero h)
one_on (suc k) s h = let less : suc k - 1 ≡ k = omega arith in ap (λ (j : ℕ). from j (others_of s)) less

pub fields_on : (k i at next : ℕ) (l all : List ℕ) → i < k → drop next l ≡ others_of (drop at l) → from (k - i) (drop at l) ≡ all
    → from (k - (i + 1)) (drop next l) ≡ all
fields_on k i at next l all h e so =
    let fewer : k - (i + 1) ≡ k - i - 1 = omega arith in
    ap (λ (j : ℕ). from j (drop next l)) fewer
    ∙ ap (λ (s : List ℕ). from (k - i - 1) s) e
    ∙ one_on (k - i) (drop at l) (omega (arith, h))
    ∙ so

none_behind : (k : ℕ) → from k [] ≡ []
none_behind zero = refl
none_behind (suc k) = none_behind k

pub fields_none : (left at : ℕ) (l all : List ℕ) → at ≡ length l → from left (drop at l) ≡ all → drop at l ≡ all
fields_none left at l all e so =
    let none : drop at l ≡ [] = drop_of_length-le l {i = at} (omega (arith, e)) in
    none ∙ sym (none_behind left) ∙ ap (from left) (sym none) ∙ so

pub fields_end : (k i : ℕ) (s all : List ℕ) → k ≤ i → from (k - i) s ≡ all → s ≡ all
fields_end k i s all h so = let none : 0 ≡ k - i = omega (arith, h) in ap (λ (j : ℕ). from j s) none ∙ so

-- what stands behind a field, or behind a group of them, is less
behind_field : (s : List ℕ) → 0 < length s → length (others_of s) < length s
behind_field s some = omega (arith, length-drop (suc (index_of 124 s)) s)

not_more : (k : ℕ) (s : List ℕ) → length (from k s) ≤ length s
not_more zero s = omega arith
not_more (suc k) s = omega (arith, not_more k (others_of s), length-drop (suc (index_of 124 s)) s)

pub behind_group : (k : ℕ) (s : List ℕ) → 0 < k → 0 < length s → length (from k s) < length s
behind_group zero s h some = absurd (not-suc-le-zero h)
behind_group (suc k) s h some = omega (arith, not_more k (others_of s), behind_field s some)

-- the parts of the input that are handed out
pub all_from : (at : ℕ) (l rest : List ℕ) → drop at l ≡ rest → take (length l - at) (drop at l) ≡ rest
all_from at l rest so = take_all (length l - at) (drop at l) (omega (arith, length-drop at l)) ∙ so

pub one_field : (at end : ℕ) (l rest : List ℕ) → end ≡ at + index_of 124 (drop at l) → drop at l ≡ rest
    → take (end - at) (drop at l) ≡ first_of rest
one_field at end l rest e so =
    let as_many : end - at ≡ index_of 124 (drop at l) = omega (arith, e) in
    ap (λ (n : ℕ). take n (drop at l)) as_many ∙ ap first_of so

-- the chain over digits, and one of them
pub number_fold : (sum : ℕ) (l : List ℕ) → fold with_digit sum l ≡ number_in sum l
number_fold sum [] = refl
number_fold sum (b ∷ rest) = number_fold (with_digit sum b) rest

pub digit_fits : (sum byte wide r : ℕ) → sum ≤ 1844674407370955161 → wide ≡ byte → r ≡ (sum * 10 + wide % 16) % 2 ^ 64 → r ≡ with_digit sum byte
digit_fits sum byte wide r h e so = rw (so, e, le-leb sum 1844674407370955161 h)

pub digit_not : (sum byte : ℕ) → 1844674407370955161 < sum → sum ≡ with_digit sum byte
digit_not sum byte h = rw (lt-leb sum 1844674407370955161 h)
