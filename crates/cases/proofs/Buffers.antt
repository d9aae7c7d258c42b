-- Loops over a buffer's bytes: what holds so far, and of one byte more. Assumes nothing.
use Rattle.std.proofs.Common.{◌≡◌, ℕ, ◌+◌, ◌%◌, ◌<◌, ◌≤◌, Bool, true, false, ◌≢◌, List, ◌∷◌, length, get_or, take, set, refl, sym, ◌∙◌, subst, not-suc-le-zero, mod-lt, arith, take_all, get_or-set_other, get_or-set_same, ext_get_or, below_more}
use Rattle.std.specs.Prelude.{◌==◌, ◌&&◌, cond}
use Rattle.cases.specs.Buffer.{untouched, Repeats}

-- taking more than there is
pub whole : (n : ℕ) (l : List ℕ) → length l < n → l ≡ take n l
whole n l h = sym (take_all n l (omega (arith, h)))

-- one byte, and those behind it
pub untouched_step : (b : ℕ) (rest : List ℕ) → untouched (b ∷ rest) ≡ (b == 35 && untouched rest)
untouched_step b rest = by (b == 35) (untouched rest)
  where
    by : (q r : Bool) → cond q r false ≡ (q && r)
    by true r = refl
    by false r = refl

-- the loop that fills a buffer
pub repeats_none : (piece bytes : List ℕ) → Repeats piece bytes 0
repeats_none piece bytes = record { each = λ i l. absurd (not-suc-le-zero l) }

pub repeats_nothing : (piece bytes : List ℕ) (n : ℕ) → length piece ≡ 0 → Repeats piece bytes n
repeats_nothing piece bytes n e = record { each = λ i l some. absurd (not-suc-le-zero (subst (λ (k : ℕ). 0 < k) e some)) }

pub repeats_on : (piece bytes : List ℕ) (i : ℕ) → i < length bytes → Repeats piece bytes i
    → Repeats piece (set bytes i (get_or piece (i % length piece) 0)) (i + 1)
repeats_on piece bytes i l so =
    let b : ℕ = get_or piece (i % length piece) 0 in
    let Right : ℕ → Type 0 = λ j. 0 < length piece → get_or (set bytes i b) j 0 ≡ get_or piece (j % length piece) 0 in
    record {
      each =
          below_more Right i
          (λ j m some. get_or-set_other bytes i j b 0 (λ e. omega (arith, m, e)) ∙ so.each j m some)
          (λ some. get_or-set_same bytes i b 0 l);
    }

pub repeats_to_the_end : (piece bytes : List ℕ) (i : ℕ) → length bytes ≤ i → Repeats piece bytes i → Repeats piece bytes (length bytes)
repeats_to_the_end piece bytes i h so = record { each = λ j l some. so.each j (omega (arith, l, h)) some }

-- two buffers of a length that repeat the same piece are equal
pub repeats_one : (piece one other : List ℕ) → length one ≡ length other → 0 < length piece → Repeats piece one (length one)
    → Repeats piece other (length other) → one ≡ other
repeats_one piece one other same some so too =
    ext_get_or 0 one other same (λ i l. so.each i l some ∙ sym (too.each i (subst (λ (n : ℕ). i < n) same l) some))

-- a place of the piece
pub in_piece : (i : ℕ) (piece : List ℕ) → length piece ≢ 0 → i % length piece < length piece
in_piece i piece some = mod-lt i (omega (arith, some))
