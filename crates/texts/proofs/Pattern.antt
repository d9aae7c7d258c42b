-- Following a pattern: of a text either all of the pattern is found in front, or the steps stop at the longest beginning that it allows.
-- Assumes nothing.
use Rattle.std.proofs.Common.{Ok, Err}
use Prim.Native.Nat.{ℕ, zero, suc, ◌+◌, ◌≤◌, ◌<◌, suc-le-suc, zero-le}
use mathlib.Core.Path.{◌≡◌, refl, sym, ap, ap₂, ◌∙◌, subst}
use mathlib.Core.Bool.{Bool, true, false, not, ◌&&◌, cond}
use mathlib.Core.List.{List, [], ◌∷◌, ◌++◌}
use native.Mathlib.Omega.{arith}
use native.Mathlib.Nat.{le_of_suc-le-suc}
use lib.Dec.{T, eqb, eqb→eq, eqb_refl}
use lib.ListN.{length, take, drop, get_or}
use lib.Seq.{length-take-le, take-nil}
use Rattle.ground.proofs.Truths.{differ}
use Rattle.texts.specs.Step.{Step}
use Rattle.texts.specs.Language.{Language, Begins, Seq, Some, PrefixFree, Reads, found, stuck, shift, on_step, Judges}
use Rattle.texts.specs.Pattern.{cell_byte, fits, Follows, is_word, further, follow, follow_at}
use Rattle.texts.proofs.Language.{judges_seq}

pub length-follows : (ps a : List ℕ) → Follows ps a → length a ≡ length ps
length-follows [] [] f = refl
length-follows [] (b ∷ a) f = absurd f
length-follows (p ∷ ps) [] f = absurd f
length-follows (p ∷ ps) (b ∷ a) f = ap suc (length-follows ps a f.1)

pub free_follows : (ps : List ℕ) → PrefixFree (Follows ps)
free_follows ps s m n lm ln fm fn =
    sym (length-take-le m s lm) ∙ length-follows ps _ fm ∙ sym (length-follows ps _ fn) ∙ length-take-le n s ln

-- a text that follows the pattern: what stands there, and `-` for a cell
abbrev pub sample : List ℕ → List ℕ
sample [] = []
sample (p ∷ ps) = cond (eqb p 63) 45 p ∷ sample ps

fits_sample : (p : ℕ) → T (fits p (cond (eqb p 63) 45 p))
fits_sample p = by (eqb p 63)
  where
    by : (q : Bool) → T (cond q (cell_byte (cond q 45 p)) (eqb (cond q 45 p) p))
    by true = tt
    by false = eqb_refl p

pub sample_follows : (ps : List ℕ) → Follows ps (sample ps)
sample_follows [] = tt
sample_follows (p ∷ ps) = (fits_sample p, sample_follows ps)

pub chosen : {A : Type 0} (q : Bool) (a b : A) → T q → cond q a b ≡ a
chosen true a b t = refl
chosen false a b t = absurd t

-- the pattern at the front of a longer text is found whole
pub follow_whole : (ps a rest : List ℕ) → Follows ps a → follow ps (a ++ rest) ≡ Ok (length ps)
unfolding follow
follow_whole [] [] rest f = refl
follow_whole [] (b ∷ a) rest f = absurd f
follow_whole (p ∷ ps) [] rest f = absurd f
follow_whole (p ∷ ps) (b ∷ a) rest f = chosen (fits p b) _ _ f.0 ∙ ap further (follow_whole ps a rest f.1)

none_empty : (p : ℕ) (ps : List ℕ) (n : ℕ) → Follows (p ∷ ps) (take n []) → ⊥
none_empty p ps n f = subst (Follows (p ∷ ps)) (take-nil n) f

-- one byte that fits, and then the rest of the pattern
reads_more : (p b : ℕ) (ps s : List ℕ) → T (fits p b) → {r : Step} → Reads (Follows ps) s r → Reads (Follows (p ∷ ps)) (b ∷ s) (further r)
reads_more p b ps s t (found ln f) = found (suc-le-suc ln) (t, f)
reads_more p b ps s t (stuck {k = k} h none) = stuck
    record {
      within = suc-le-suc h.within;
      begins = (h.begins.0, (t, h.begins.1));
      longest = most;
    }
    none_more
  where
    most : (j : ℕ) → j ≤ length (b ∷ s) → Begins (Follows (p ∷ ps)) (take j (b ∷ s)) → j ≤ suc k
    most zero lj more = zero-le
    most (suc j) lj more = suc-le-suc (h.longest j (le_of_suc-le-suc lj) (more.0, more.1.1))

    none_more : (n : ℕ) → n ≤ length (b ∷ s) → Follows (p ∷ ps) (take n (b ∷ s)) → ⊥
    none_more zero ln f = f
    none_more (suc n) ln f = none n (le_of_suc-le-suc ln) f.1

reads_none : (p b : ℕ) (ps s : List ℕ) → (T (fits p b) → ⊥) → Reads (Follows (p ∷ ps)) (b ∷ s) (Err 0)
reads_none p b ps s not-fit = stuck record { within = zero-le; begins = (sample (p ∷ ps), sample_follows (p ∷ ps)); longest = most } none
  where
    most : (j : ℕ) → j ≤ length (b ∷ s) → Begins (Follows (p ∷ ps)) (take j (b ∷ s)) → j ≤ 0
    most zero lj more = zero-le
    most (suc j) lj more = absurd (not-fit more.1.0)

    none : (n : ℕ) → n ≤ length (b ∷ s) → Follows (p ∷ ps) (take n (b ∷ s)) → ⊥
    none zero ln f = f
    none (suc n) ln f = not-fit f.0

pub reads_follow : (ps s : List ℕ) → Reads (Follows ps) s (follow ps s)
unfolding follow
reads_follow [] s = found zero-le tt
reads_follow (p ∷ ps) [] = stuck
    record {
      within = zero-le;
      begins = (sample (p ∷ ps), sample_follows (p ∷ ps));
      longest = (λ j lj more. lj);
    }
    (λ n ln f. none_empty p ps n f)
reads_follow (p ∷ ps) (b ∷ s) = by (fits p b) (λ t. t) (λ t. t) (reads_follow ps s)
  where
    by : (q : Bool) → (T q → T (fits p b)) → (T (fits p b) → T q) → Reads (Follows ps) s (follow ps s)
        → Reads (Follows (p ∷ ps)) (b ∷ s) (cond q (further (follow ps s)) (Err 0))
    by true to back r = reads_more p b ps s (to tt) r
    by false to back r = reads_none p b ps s back

-- a text by which a beginning can be completed
pub some_follows : (ps : List ℕ) → Some (Follows ps)
some_follows ps = (sample ps, sample_follows ps)

-- of a text that follows a pattern each byte fits
pub follows_at : (ps a : List ℕ) → Follows ps a → (i : ℕ) → i < length ps → T (fits (get_or ps i 0) (get_or a i 0))
follows_at [] a f i l = absurd (omega arith)
follows_at (p ∷ ps) [] f i l = absurd f
follows_at (p ∷ ps) (b ∷ a) f zero l = f.0
follows_at (p ∷ ps) (b ∷ a) f (suc i) l = follows_at ps a f.1 i (le_of_suc-le-suc l)

-- a word is followed by itself alone
unmarked : (q r x y : Bool) → T (not q && r) → cond q x y ≡ y
unmarked true r x y t = absurd t
unmarked false r x y t = refl

unmarked_rest : (q r : Bool) → T (not q && r) → T r
unmarked_rest true r t = absurd t
unmarked_rest false r t = t

pub same_word : (ps a : List ℕ) → T (is_word ps) → Follows ps a → a ≡ ps
same_word [] [] w f = refl
same_word [] (b ∷ a) w f = absurd f
same_word (p ∷ ps) [] w f = absurd f
same_word (p ∷ ps) (b ∷ a) w f =
    ap₂ (λ (x : ℕ) (l : List ℕ). x ∷ l) (eqb→eq b p (subst T (unmarked (eqb p 63) (is_word ps) (cell_byte b) (eqb b p) w) f.0))
    (same_word ps a (unmarked_rest (eqb p 63) (is_word ps) w) f.1)

pub own_word : (ps : List ℕ) → T (is_word ps) → Follows ps ps
own_word [] w = tt
own_word (p ∷ ps) w = (
  subst T (sym (unmarked (eqb p 63) (is_word ps) (cell_byte p) (eqb p p) w)) (eqb_refl p),
  own_word ps (unmarked_rest (eqb p 63) (is_word ps) w),
)

-- a pattern at a place of the whole text
pub followed : (ps t a b : List ℕ) (at : ℕ) → drop at t ≡ a ++ b → Follows ps a → follow_at ps t at ≡ Ok (at + length ps)
followed ps t a b at is f = ap (λ (s : List ℕ). shift at (follow ps s)) is ∙ ap (shift at) (follow_whole ps a b f)

pub pattern_past : (ps t : List ℕ) (at p : ℕ) → follow_at ps t at ≡ Ok p → at + length ps ≡ p
pattern_past ps t at p = by (reads_follow ps (drop at t))
  where
    by : {r : Step} → Reads (Follows ps) (drop at t) r → shift at r ≡ Ok p → at + length ps ≡ p
    by (found {n = m} lm f) is =
        let same : at + m ≡ p = cc in
        omega (arith, length-take-le m (drop at t) lm, length-follows ps (take m (drop at t)) f)
    by (stuck h none) is = differ (cc)

-- a pattern and what comes after it, at any place of a text
pub judges_follow : {A : Type 0} (refuse : ℕ → A) (t : List ℕ) (M : Language) → Some M → (ps : List ℕ) (g : ℕ → ℕ → A)
    → ((a : ℕ) → Judges refuse M t (g a)) → Judges refuse (Seq (Follows ps) M) t (λ at. on_step refuse (follow_at ps t at) (g at))
judges_follow refuse t M some ps g rest = judges_seq refuse (Follows ps) M (free_follows ps) some t (follow ps) (reads_follow ps) g rest
