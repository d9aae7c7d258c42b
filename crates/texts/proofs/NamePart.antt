-- Following a name and the byte after it: found whole, or stopped at the longest beginning that a name allows. Assumes nothing.
use Rattle.std.proofs.Common.{Ok, Err}
use Prim.Native.Nat.{ℕ, zero, suc, ◌+◌, ◌≤◌, ◌<◌, suc-le-suc, zero-le}
use mathlib.Core.Path.{◌≡◌, refl, sym, ap, ◌∙◌, subst}
use mathlib.Core.Bool.{Bool, true, false, cond}
use mathlib.Core.List.{List, [], ◌∷◌, ◌++◌, append-nil, append_assoc}
use native.Mathlib.Omega.{arith}
use native.Mathlib.Decide.{dec_lt, ℕ_discrete}
use native.Mathlib.Nat.{le_of_suc-le-suc}
use native.Mathlib.Numerals.{add-one}
use borrow.Author.Tests.{lt-ltb, le-ltb, eq-eqb, ne_eqb}
use lib.Dec.{T}
use lib.ListN.{length, take, drop, get_or, length-append, get_or-append}
use lib.Seq.{length-take-le, take-suc, get_or_at, get_or-take, take_at}
use Rattle.std.specs.List.{prefix_len}
use Rattle.ground.specs.Bytes.{name_byte}
use Rattle.texts.specs.Step.{Step}
use Rattle.texts.specs.Language.{Language, Begins, Seq, Some, PrefixFree, Reads, found, stuck, shift, on_step, Judges}
use Rattle.texts.specs.NamePart.{Each, NameBytes, NameFormed, Ended, name_run, end_name, name_step, name_at}
use Rattle.texts.proofs.Language.{judges_seq}
use Rattle.texts.proofs.Pattern.{chosen}

pub each_at : {A : Type 0} (P : A → Type 0) (l : List A) (d : A) → Each P l → (i : ℕ) → i < length l → P (get_or l i d)
each_at P [] d h i li = absurd (omega arith)
each_at P (x ∷ l) d h zero li = h.0
each_at P (x ∷ l) d h (suc i) li = each_at P l d h.1 i (le_of_suc-le-suc li)

-- what a run of name bytes is
record Run (limit : ℕ) (s : List ℕ) (n : ℕ) : Type 0 where
  few : n ≤ limit
  within : n ≤ length s
  bytes : NameBytes (take n s)
  ends : n < limit → n < length s → T (name_byte (get_or s n 0)) → ⊥

run_more : (limit b : ℕ) (s : List ℕ) (n : ℕ) → T (name_byte b) → Run limit s n → Run (suc limit) (b ∷ s) (suc n)
run_more limit b s n t r = record {
  few = suc-le-suc r.few;
  within = suc-le-suc r.within;
  bytes = (t, r.bytes);
  ends = (λ l ls. r.ends (le_of_suc-le-suc l) (le_of_suc-le-suc ls));
}

run_is : (limit : ℕ) (s : List ℕ) → Run limit s (name_run limit s)
unfolding name_run
run_is zero s = record { few = zero-le; within = zero-le; bytes = tt; ends = (λ l ls t. omega arith) }
run_is (suc limit) [] = record { few = zero-le; within = zero-le; bytes = tt; ends = (λ l ls t. omega arith) }
run_is (suc limit) (b ∷ s) = by (name_byte b) (λ t. t) (λ t. t) (run_is limit s)
  where
    by : (q : Bool) → (T q → T (name_byte b)) → (T (name_byte b) → T q) → Run limit s (name_run limit s)
        → Run (suc limit) (b ∷ s) (cond q (suc (name_run limit s)) 0)
    by true to back r = run_more limit b s (name_run limit s) (to tt) r
    by false to back r = record { few = zero-le; within = zero-le; bytes = tt; ends = (λ l ls t. back t) }

-- the same by the library's `prefix_len`
pub run_counted : (limit : ℕ) (s : List ℕ) → prefix_len name_byte (take limit s) ≡ name_run limit s
unfolding name_run
run_counted zero s = refl
run_counted (suc limit) [] = refl
run_counted (suc limit) (b ∷ s) = by (name_byte b) (run_counted limit s)
  where
    by : (q : Bool) → prefix_len name_byte (take limit s) ≡ name_run limit s
        → cond q (1 + prefix_len name_byte (take limit s)) 0 ≡ cond q (suc (name_run limit s)) 0
    by true e = omega arith
    by false e = refl

pub run_within : (s : List ℕ) → name_run 16 s ≤ length s
run_within s = (run_is 16 s).within

pub run_few : (s : List ℕ) → name_run 16 s ≤ 16
run_few s = (run_is 16 s).few

pub run_bytes : (s : List ℕ) → NameBytes (take (name_run 16 s) s)
run_bytes s = (run_is 16 s).bytes

module _ (e : ℕ) (not-name : T (name_byte e) → ⊥) where
  -- where a text s that goes on as a name and e after it was begun: before its j-th byte s says what the name has there
  in_name : (s rest n : List ℕ) (j i : ℕ) → j ≤ length s → i < j → take j s ++ rest ≡ n ++ (e ∷ []) → i < length n → get_or s i 0 ≡ get_or n i 0
  in_name s rest n j i lj li whole ln =
      sym (get_or-take j s i 0 li)
      ∙ sym (get_or-append (take j s) rest 0 i (omega (arith, length-take-le j s lj)))
      ∙ ap (λ (l : List ℕ). get_or l i 0) whole
      ∙ get_or-append n (e ∷ []) 0 i ln

  at_end : (s rest n : List ℕ) (j : ℕ) → j ≤ length s → length n < j → take j s ++ rest ≡ n ++ (e ∷ []) → get_or s (length n) 0 ≡ e
  at_end s rest n j lj li whole =
      sym (get_or-take j s (length n) 0 li)
      ∙ sym (get_or-append (take j s) rest 0 (length n) (omega (arith, length-take-le j s lj)))
      ∙ ap (λ (l : List ℕ). get_or l (length n) 0) whole
      ∙ get_or_at n e [] 0 (length n) refl

  formed_at : (n : List ℕ) → NameFormed n → (i : ℕ) → i < length n → T (name_byte (get_or n i 0))
  formed_at n f i li = each_at (λ (b : ℕ). T (name_byte b)) n 0 f.bytes i li

  module _ (s : List ℕ) (k : ℕ) (r : Run 16 s k) where
    in_run : (i : ℕ) → i < k → T (name_byte (get_or s i 0))
    in_run i li =
        subst (λ (b : ℕ). T (name_byte b)) (get_or-take k s i 0 li)
        (each_at (λ (b : ℕ). T (name_byte b)) (take k s) 0 r.bytes i (omega (arith, length-take-le k s r.within)))

    -- the name does not end within the run
    not_before : (rest n : List ℕ) (j : ℕ) → j ≤ length s → length n < j → take j s ++ rest ≡ n ++ (e ∷ []) → length n < k → ⊥
    not_before rest n j lj li whole l = not-name (subst (λ (b : ℕ). T (name_byte b)) (at_end s rest n j lj li whole) (in_run (length n) l))

    -- nor does it go on past it
    not_past : (rest n : List ℕ) (j : ℕ) → j ≤ length s → k < j → NameFormed n → take j s ++ rest ≡ n ++ (e ∷ []) → k < length n → ⊥
    not_past rest n j lj kj f whole l =
        r.ends (omega (arith, f.few)) (omega arith)
        (subst (λ (b : ℕ). T (name_byte b)) (sym (in_name s rest n j k lj kj whole l)) (formed_at n f k l))

    -- so it ends with it
    ends_with : (rest n : List ℕ) (j : ℕ) → j ≤ length s → k < j → NameFormed n → take j s ++ rest ≡ n ++ (e ∷ []) → length n ≡ k
    ends_with rest n j lj kj f whole = by (dec_lt (length n) k) (dec_lt k (length n))
      where
        by : Dec (length n < k) → Dec (k < length n) → length n ≡ k
        by (yes l) q = absurd (not_before rest n j lj (omega arith) whole l)
        by (no l) (yes g) = absurd (not_past rest n j lj kj f whole g)
        by (no l) (no g) = omega arith

    named : 1 ≤ k → NameFormed (take k s)
    named h =
        let e : length (take k s) ≡ k = length-take-le k s r.within in
        record { some = omega arith; few = omega (arith, r.few); bytes = r.bytes }

    reads_stuck : (1 ≤ k → k < length s → get_or s k 0 ≡ e → ⊥) → Reads (Ended e) s (Err k)
    reads_stuck no_end = stuck record { within = r.within; begins = completed (dec_lt 0 k); longest = most } none
      where
        completed : Dec (0 < k) → Begins (Ended e) (take k s)
        completed (yes h) = (e ∷ [], (take k s, named h, refl))
        completed (no h) =
            let z : k ≡ 0 = omega arith in
            (65 ∷ e ∷ [], (65 ∷ [], record { some = omega arith; few = omega arith; bytes = (tt, tt) }, ap (λ (i : ℕ). take i s ++ (65 ∷ e ∷ [])) z))

        most : (j : ℕ) → j ≤ length s → Begins (Ended e) (take j s) → j ≤ k
        most j lj (rest, (n, f, whole)) = by (dec_lt k j)
          where
            by : Dec (k < j) → j ≤ k
            by (no l) = omega arith
            by (yes l) =
                let same : length n ≡ k = ends_with rest n j lj l f whole in
                absurd (no_end (omega (arith, f.some)) (omega arith)
                (ap (λ (i : ℕ). get_or s i 0) (sym same) ∙ at_end s rest n j lj (omega arith) whole))

        none : (j : ℕ) → j ≤ length s → Ended e (take j s) → ⊥
        none j lj (n, f, whole) =
            let long : j ≡ length n + 1 = sym (length-take-le j s lj) ∙ ap length whole ∙ length-append n (e ∷ []) in
            let all : take j s ++ [] ≡ n ++ (e ∷ []) = append-nil (take j s) ∙ whole in
            not_before [] n j lj (omega arith) all (omega (arith, most j lj ([], (n, f, all))))

    reads_found : 1 ≤ k → k < length s → get_or s k 0 ≡ e → Reads (Ended e) s (Ok (k + 1))
    reads_found h l is =
        let cut : take (k + 1) s ≡ take k s ++ (e ∷ []) = rw add-one (take-suc s k 0 l ∙ ap (λ (b : ℕ). take k s ++ (b ∷ [])) is) in
        found {n = k + 1} (omega arith) (take k s, named h, cut)

    -- the count decides
    reads_end : Reads (Ended e) s (end_name e s k)
    reads_end = by (dec_lt 0 k) (dec_lt k (length s)) (ℕ_discrete (get_or s k 0) e)
      where
        by : Dec (0 < k) → Dec (k < length s) → Dec (get_or s k 0 ≡ e) → Reads (Ended e) s (end_name e s k)
        by (no z) l q =
            let none : k ≡ 0 = omega arith in
            let is : end_name e s k ≡ Err k = simp (eq-eqb k 0 none) (ap Err (sym none)) in
            subst (λ (st : Step). Reads (Ended e) s st) (sym is) (reads_stuck (λ some l' q'. omega arith))
        by (yes h) (no l) q =
            let is : end_name e s k ≡ Err k = simp (ne_eqb k 0 (λ z. omega arith), le-ltb k (length s) (omega arith)) in
            subst (λ (st : Step). Reads (Ended e) s st) (sym is) (reads_stuck (λ some l' q'. omega arith))
        by (yes h) (yes l) (no q) =
            let is : end_name e s k ≡ Err k = simp (ne_eqb k 0 (λ z. omega arith), lt-ltb k (length s) l, ne_eqb (get_or s k 0) e q) in
            subst (λ (st : Step). Reads (Ended e) s st) (sym is) (reads_stuck (λ some l' q'. q q'))
        by (yes h) (yes l) (yes q) =
            let is : end_name e s k ≡ Ok (k + 1) = simp (ne_eqb k 0 (λ z. omega arith), lt-ltb k (length s) l, eq-eqb (get_or s k 0) e q) in
            subst (λ (st : Step). Reads (Ended e) s st) (sym is) (reads_found h l q)

pub reads_name : (e : ℕ) → (T (name_byte e) → ⊥) → (s : List ℕ) → Reads (Ended e) s (name_step e s)
unfolding name_step
reads_name e not-name s = reads_end e not-name s (name_run 16 s) (run_is 16 s)

-- of a text at most one beginning is a name and e after it
pub free_ended : (e : ℕ) → (T (name_byte e) → ⊥) → PrefixFree (Ended e)
free_ended e not-name s m n lm ln (a, fa, ea) (b, fb, eb) = by (dec_lt (length a) (length b)) (dec_lt (length b) (length a))
  where
    long : (c : List ℕ) (i : ℕ) → i ≤ length s → take i s ≡ c ++ (e ∷ []) → i ≡ length c + 1
    long c i li is = sym (length-take-le i s li) ∙ ap length is ∙ length-append c (e ∷ [])

    apart : (c f : List ℕ) (i j : ℕ) → i ≤ length s → j ≤ length s → take i s ≡ c ++ (e ∷ []) → take j s ≡ f ++ (e ∷ []) → NameFormed f
        → length c < length f → ⊥
    apart c f i j li lj ci fj formed l =
        let wi : take i s ++ [] ≡ c ++ (e ∷ []) = append-nil (take i s) ∙ ci in
        let wj : take j s ++ [] ≡ f ++ (e ∷ []) = append-nil (take j s) ∙ fj in
        let ends : get_or s (length c) 0 ≡ e = at_end e not-name s [] c i li (omega (arith, long c i li ci)) wi in
        let goes_on : get_or s (length c) 0 ≡ get_or f (length c) 0 = in_name e not-name s [] f j (length c) lj (omega (arith, long f j lj fj)) wj l in
        not-name (subst (λ (x : ℕ). T (name_byte x)) (sym goes_on ∙ ends) (formed_at e not-name f formed (length c) l))

    by : Dec (length a < length b) → Dec (length b < length a) → m ≡ n
    by (yes l) q = absurd (apart a b m n lm ln ea eb fb l)
    by (no l) (yes g) = absurd (apart b a n m ln lm eb ea fa g)
    by (no l) (no g) = omega (arith, long a m lm ea, long b n ln eb)

-- a name and e after it, at the front of a longer text, are found whole
pub name_whole : (e : ℕ) → (T (name_byte e) → ⊥) → (n rest : List ℕ) → NameFormed n → name_step e (n ++ (e ∷ rest)) ≡ Ok (length n + 1)
name_whole e not-name n rest f = by (reads_name e not-name (n ++ (e ∷ rest)))
  where
    whole : List ℕ
    whole = n ++ (e ∷ rest)

    regroup : whole ≡ (n ++ (e ∷ [])) ++ rest
    regroup = sym (append_assoc n (e ∷ []) rest)

    reach : length n + 1 ≤ length whole
    reach = omega (arith, length-append n (e ∷ rest))

    front : take (length n + 1) whole ≡ n ++ (e ∷ [])
    front = ap (take (length n + 1)) regroup ∙ take_at (n ++ (e ∷ [])) rest (length n + 1) (length-append n (e ∷ []))

    is : Ended e (take (length n + 1) whole)
    is = (n, f, front)

    by : {r : Step} → Reads (Ended e) whole r → r ≡ Ok (length n + 1)
    by (stuck h none) = absurd (none (length n + 1) reach is)
    by (found {n = m} lm a) = ap Ok (free_ended e not-name whole m (length n + 1) lm reach a is)

-- a text by which a beginning can be completed
pub some_name : (e : ℕ) → Some (Ended e)
some_name e = (65 ∷ e ∷ [], (65 ∷ [], record { some = omega arith; few = omega arith; bytes = (tt, tt) }, refl))

-- a name is counted up to the byte after it
pub run_whole : (limit : ℕ) (n rest : List ℕ) (e : ℕ) → NameBytes n → length n ≤ limit → (T (name_byte e) → ⊥)
    → name_run limit (n ++ (e ∷ rest)) ≡ length n
unfolding name_run
run_whole zero [] rest e h l not-name = refl
run_whole zero (b ∷ n) rest e h l not-name = absurd (omega arith)
run_whole (suc limit) [] rest e h l not-name = by (name_byte e) not-name
  where
    by : (q : Bool) → (T q → ⊥) → cond q (suc (name_run limit rest)) 0 ≡ 0
    by true h = absurd (h tt)
    by false h = refl
run_whole (suc limit) (b ∷ n) rest e h l not-name =
    chosen (name_byte b) _ _ h.0 ∙ ap suc (run_whole limit n rest e h.1 (le_of_suc-le-suc l) not-name)

-- a name at a place of the whole text
pub name_found : (t n rest : List ℕ) (e at : ℕ) → drop at t ≡ (n ++ (e ∷ [])) ++ rest → NameFormed n → (T (name_byte e) → ⊥)
    → name_at e t at ≡ Ok (at + (length n + 1))
name_found t n rest e at is f not-name =
    ap (λ (s : List ℕ). shift at (name_step e s)) (is ∙ append_assoc n (e ∷ []) rest) ∙ ap (shift at) (name_whole e not-name n rest f)

-- a name, the byte after it and what comes after that, at any place of a text
pub judges_name : {A : Type 0} (refuse : ℕ → A) (t : List ℕ) (M : Language) → Some M → (e : ℕ) → (T (name_byte e) → ⊥) → (g : ℕ → ℕ → A)
    → ((a : ℕ) → Judges refuse M t (g a)) → Judges refuse (Seq (Ended e) M) t (λ at. on_step refuse (name_at e t at) (g at))
judges_name refuse t M some e not-name g rest =
    judges_seq refuse (Ended e) M (free_ended e not-name) some t (name_step e) (reads_name e not-name) g rest
