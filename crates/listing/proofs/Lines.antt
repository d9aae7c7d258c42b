-- Laws of lines: the first ends with the first line feed, and a text is found line after line. Assumes nothing.
use Rattle.std.proofs.Common.{Option, Some, None}
use Prim.Native.Nat.{ℕ, zero, suc, ◌+◌, ◌-◌, ◌≤◌, ◌<◌}
use mathlib.Core.Path.{◌≡◌, refl, sym, ap, ap₂, subst, ◌∙◌}
use mathlib.Core.Bool.{Bool, true, false, ◌&&◌, cond}
use mathlib.Core.List.{List, [], ◌∷◌, ◌++◌, append_assoc}
use native.Mathlib.Omega.{arith}
use native.Mathlib.Nat.{le_of_suc-le-suc}
use borrow.Author.Tests.{eq-eqb, ne_eqb}
use lib.Dec.{eqb, leb}
use lib.ListN.{length, get_or, take, drop, length-drop}
use lib.Seq.{take_all, take-add, drop-drop}
use Rattle.rule.specs.declared.way.Way.{Way}
use Rattle.ground.specs.Search.{index_of, index_after}
use Rattle.ground.proofs.Sameness.{same_is}
use Rattle.ground.specs.Bytes.{bytes, same_bytes}
use Rattle.listing.specs.Shape.{prefixed, lines, Cut, joined, through, way_in, is_run, ending_from, ending_of}
use Rattle.listing.specs.inner.Finding.{LineOf, NoLine, TextOf, GoesOn}

-- a line up to its first line feed
first_line : (l : List ℕ) → index_of 10 l < length l → lines l ≡ take (suc (index_of 10 l)) l ∷ lines (drop (suc (index_of 10 l)) l)
unfolding lines index_of index_after
first_line [] h = absurd (omega arith)
first_line (b ∷ l) h = by (eqb b 10) h (first_line l)
  where
    by : (q : Bool) → index_after q (index_of 10 l) < length (b ∷ l)
        → (index_of 10 l < length l → lines l ≡ take (suc (index_of 10 l)) l ∷ lines (drop (suc (index_of 10 l)) l))
        → cond q ((b ∷ []) ∷ lines l) (prefixed b (lines l))
        ≡ take (suc (index_after q (index_of 10 l))) (b ∷ l) ∷ lines (drop (suc (index_after q (index_of 10 l))) (b ∷ l))
    by true h rest = refl
    by false h rest = ap (prefixed b) (rest (le_of_suc-le-suc h))

abbrev whole : List ℕ → List (List ℕ)
whole [] = []
whole (b ∷ l) = (b ∷ l) ∷ []

prefixed_whole : (b : ℕ) (l : List ℕ) → prefixed b (whole l) ≡ (b ∷ l) ∷ []
prefixed_whole b [] = refl
prefixed_whole b (c ∷ l) = refl

-- a text without a line feed is no line or one
only_line : (l : List ℕ) → length l ≤ index_of 10 l → lines l ≡ whole l
unfolding lines index_of index_after
only_line [] h = refl
only_line (b ∷ l) h = by (eqb b 10) h (only_line l)
  where
    by : (q : Bool) → suc (length l) ≤ index_after q (index_of 10 l) → (length l ≤ index_of 10 l → lines l ≡ whole l)
        → cond q ((b ∷ []) ∷ lines l) (prefixed b (lines l)) ≡ (b ∷ l) ∷ []
    by true h rest = absurd (omega arith)
    by false h rest = ap (prefixed b) (rest (le_of_suc-le-suc h)) ∙ prefixed_whole b l

-- and None of its bytes is one
no_feed : (l : List ℕ) (i : ℕ) → length l ≤ index_of 10 l → i < length l → get_or l i 0 ≡ 10 → ⊥
unfolding index_of index_after
no_feed [] i h li e = absurd (omega arith)
no_feed (b ∷ l) zero h li e =
    let z : suc (length l) ≤ index_after true (index_of 10 l) = subst (λ (q : Bool). suc (length l) ≤ index_after q (index_of 10 l)) (eq-eqb b 10 e) h in
    omega arith
no_feed (b ∷ l) (suc i) h li e = by (eqb b 10) h (λ k. no_feed l i k (le_of_suc-le-suc li) e)
  where
    by : (q : Bool) → suc (length l) ≤ index_after q (index_of 10 l) → (length l ≤ index_of 10 l → ⊥) → ⊥
    by true h rest = omega arith
    by false h rest = rest (le_of_suc-le-suc h)

and_never : (p q : Bool) → p && (q && false) ≡ false
and_never true true = refl
and_never true false = refl
and_never false q = refl

-- so it is neither the line `end` nor a run's
module _ (l : List ℕ) (h : length l ≤ index_of 10 l) where
  not_end : same_bytes l (bytes "end\n") ≡ false
  unfolding index_of index_after
  not_end = by (same_bytes l (bytes "end\n")) refl
    where
      by : (q : Bool) → same_bytes l (bytes "end\n") ≡ q → q ≡ false
      by true e =
          let z : length (bytes "end\n") ≤ index_of 10 (bytes "end\n") =
          subst (λ (x : List ℕ). length x ≤ index_of 10 x) (same_is l (bytes "end\n") e) h in
          absurd (omega arith)
      by false e = refl

  not_run : 0 < length l → is_run l ≡ false
  not_run l0 =
      ap (λ (q : Bool). leb 5 (length l) && (same_bytes (take 4 l) (bytes "run ") && q)) (ne_eqb _ _ (no_feed l (length l - 1) h (omega arith)))
      ∙ and_never (leb 5 (length l)) (same_bytes (take 4 l) (bytes "run "))

pub never_ending : (w : Option Way) (r : List ℕ) → is_run r ≡ false → ending_from w r ≡ None
never_ending (Some way) r e = rw e
never_ending None r e = refl

through_whole : (l : List ℕ) → length l ≤ index_of 10 l → through (whole l) ≡ None
unfolding through
through_whole [] h = refl
through_whole (b ∷ l) h = rw (not_end (b ∷ l) h)

ending_whole : (l : List ℕ) → ending_of (whole l) ≡ None
ending_whole [] = refl
ending_whole (b ∷ l) = refl

ending_unended : (l : List ℕ) → length l ≤ index_of 10 l → (w : List ℕ) → ending_of (w ∷ whole l) ≡ None
ending_unended [] h w = refl
ending_unended (b ∷ l) h w = never_ending (way_in w) (b ∷ l) (not_run (b ∷ l) h (omega arith))

pub line_ends : (t : List ℕ) (n : ℕ) → n ≡ index_of 10 t → n < length t → LineOf t (n + 1)
line_ends t n e h =
    let k : n + 1 ≡ suc (index_of 10 t) = omega arith in
    record {
      some = omega arith;
      inside = omega arith;
      first = first_line t (omega arith) ∙ ap (λ (m : ℕ). take m t ∷ lines (drop m t)) (sym k);
    }

pub line_endless : (t : List ℕ) (n : ℕ) → n ≡ index_of 10 t → length t ≤ n → NoLine t
line_endless t n e h =
    let k : length t ≤ index_of 10 t = omega arith in
    let is : lines t ≡ whole t = only_line t k in
    record {
      no_text = ap through is ∙ through_whole t k;
      no_ending = ap ending_of is ∙ ending_whole t;
      no_run = λ w. ap (λ (x : List (List ℕ)). ending_of (w ∷ x)) is ∙ ending_unended t k w;
    }

-- what a line with its line feed says of the text that it begins
module _ {t : List ℕ} {n : ℕ} (line : LineOf t n) where
  by_line : (q : Bool) → same_bytes (take n t) (bytes "end\n") ≡ q
      → through (lines t) ≡ cond q (Some (record { text = take n t; rest = lines (drop n t) })) (joined (take n t) (through (lines (drop n t))))
  unfolding through
  by_line q e =
      ap through line.first
      ∙ ap (λ (q : Bool). cond q (Some (record { text = take n t; rest = lines (drop n t) })) (joined (take n t) (through (lines (drop n t))))) e

  pub line_last : same_bytes (take n t) (bytes "end\n") ≡ true → TextOf t n
  line_last e = record { inside = line.inside; whole = by_line true e }

  pub line_more : same_bytes (take n t) (bytes "end\n") ≡ false → GoesOn t n
  line_more e = record { some = line.some; inside = line.inside; more = by_line false e }

-- a text found from a place on, line after line
joined_joined : (x y : List ℕ) (c : Option Cut) → joined x (joined y c) ≡ joined (x ++ y) c
joined_joined x y None = refl
joined_joined x y (Some c) = ap (λ (t : List ℕ). Some (record { text = t; rest = c.rest })) (sym (append_assoc x y c.text))

joined_none : (c : Option Cut) → joined [] c ≡ c
joined_none None = refl
joined_none (Some c) = refl

abbrev pub SoFar : List ℕ → ℕ → Type 0
SoFar t at = through (lines t) ≡ joined (take at t) (through (lines (drop at t)))

pub none_so_far : (t : List ℕ) → SoFar t 0
none_so_far t = sym (joined_none (through (lines t)))

module _ (t : List ℕ) (at : ℕ) (so : SoFar t at) where
  pub more_so_far : {n : ℕ} → GoesOn (drop at t) n → SoFar t (at + n)
  more_so_far {n} g =
      so ∙ ap (joined (take at t)) g.more
      ∙ joined_joined (take at t) (take n (drop at t)) (through (lines (drop n (drop at t))))
      ∙ ap₂ (λ (x y : List ℕ). joined x (through (lines y))) (sym (take-add at n t)) (drop-drop n at t)

  pub text_found : {n : ℕ} → at ≤ length t → TextOf (drop at t) n → TextOf t (at + n)
  text_found {n} l f =
      record {
        inside = omega (arith, f.inside, length-drop at t);
        whole =
            so ∙ ap (joined (take at t)) f.whole
            ∙ ap₂ (λ (x y : List ℕ). Some (record { text = x; rest = lines y })) (sym (take-add at n t)) (drop-drop n at t);
      }

-- what is left of a text from a place on, as a part of it
pub part_rest : (t : List ℕ) (at : ℕ) → take (length t - at) (drop at t) ≡ drop at t
part_rest t at = take_all (length t - at) (drop at t) (omega (arith, length-drop at t))
