-- Forms of text put together from parts, and how far a text can be followed: laws for one part after another and for a choice, stated once
-- for any parts. Assumes nothing.
use Rattle.std.proofs.Common.{Ok, Err}
use Prim.Native.Nat.{ℕ, zero, suc, ◌+◌, ◌-◌, ◌≤◌}
use mathlib.Core.Path.{◌≡◌, refl, sym, ap, ◌∙◌, subst}
use mathlib.Core.List.{List, [], ◌∷◌, ◌++◌, append_assoc}
use mathlib.Core.Logic.{inl, inr}
use native.Mathlib.Omega.{arith}
use native.Mathlib.Decide.{dec_le}
use native.Mathlib.Nat.{add_assoc, le_antisymm}
use lib.ListN.{length, take, drop, get_or, length-append, length-drop, take-append-drop}
use lib.Seq.{take-add, take_at, drop_at, length-take-le, take-append-add, drop-drop}
use Rattle.texts.specs.Step.{Step}
use Rattle.texts.specs.Language.{Language, Begins, Longest, Seq, Telling, Any, SeqOn, Or, Some}
use Rattle.texts.specs.Language.{PrefixFree, Unique, Reads, found, stuck, shift, on_step, Judged, Judges}

module _ (s rest : List ℕ) (m j : ℕ) (lm : m ≤ j) (lj : j ≤ length s) where
  cut : take j s ++ rest ≡ take m s ++ (take (j - m) (drop m s) ++ rest)
  cut =
      let e : m + (j - m) ≡ j = omega arith in
      ap (λ (n : ℕ). take n s ++ rest) (sym e) ∙ ap (λ (l : List ℕ). l ++ rest) (take-add m (j - m) s) ∙ append_assoc (take m s) _ rest

  take_cut : take m (take j s ++ rest) ≡ take m s
  take_cut = ap (take m) cut ∙ take_at (take m s) _ m (length-take-le m s (omega arith))

  drop_cut : drop m (take j s ++ rest) ≡ take (j - m) (drop m s) ++ rest
  drop_cut = ap (drop m) cut ∙ drop_at (take m s) _ m (length-take-le m s (omega arith))

pub length_begun : (s rest : List ℕ) (j : ℕ) → j ≤ length s → length (take j s ++ rest) ≡ j + length rest
length_begun s rest j lj = length-append (take j s) rest ∙ ap (λ (n : ℕ). n + length rest) (length-take-le j s lj)

-- what begins a text has its first byte
first_begun : (s rest : List ℕ) (j : ℕ) → 1 ≤ j → j ≤ length s → get_or (take j s ++ rest) 0 0 ≡ get_or s 0 0
first_begun [] rest j h l = absurd (omega arith)
first_begun (b ∷ s) rest zero h l = absurd (omega arith)
first_begun (b ∷ s) rest (suc j) h l = refl

swap : (L M : Language) (t : List ℕ) → Or L M t → Or M L t
swap L M t (inl a) = inr a
swap L M t (inr b) = inl b

-- two parts put together, and a text taken apart again
pub seq_join : (L M : Language) (a b : List ℕ) → L a → M b → Seq L M (a ++ b)
seq_join L M a b la mb =
    (length a, omega (arith, length-append a b), subst L (sym (take_at a b (length a) refl)) la, subst M (sym (drop_at a b (length a) refl)) mb)

pub seq_apart : (L M : Language) (t : List ℕ) → Seq L M t → (a : List ℕ) × (b : List ℕ) × (t ≡ a ++ b) × L a × M b
seq_apart L M t (n, ln, la, mb) = (take n t, drop n t, sym (take-append-drop n t), la, mb)

-- the same form under another name
pub longest_iff : (L M : Language) → ((t : List ℕ) → L t → M t) → ((t : List ℕ) → M t → L t) → (s : List ℕ) (k : ℕ) → Longest L s k → Longest M s k
longest_iff L M to back s k h = record {
  within = h.within;
  begins = (h.begins.0, to _ h.begins.1);
  longest = (λ j lj b. h.longest j lj (b.0, back _ b.1));
}

-- where the first part is found, the second decides
module _ {A : Type 0} (L : Telling A) (M : A → Language) where
  pub next_decides : Unique L → (s : List ℕ) (n k : ℕ) (a : A) → n ≤ length s → L a (take n s) → Longest (M a) (drop n s) k
      → Longest (SeqOn L M) s (n + k)
  next_decides unique s n k a ln l h = record {
    within = inside;
    begins = (rest, (a, (n, reach, subst (L a) (sym (take_cut s rest n (n + k) (omega arith) inside)) l, subst (M a) (sym rest_is) h.begins.1)));
    longest = most;
  }
    where
      rest : List ℕ
      rest = h.begins.0

      inside : n + k ≤ length s
      inside = omega (arith, length-drop n s, h.within)

      reach : n ≤ length (take (n + k) s ++ rest)
      reach = omega (arith, length_begun s rest (n + k) inside)

      rest_is : drop n (take (n + k) s ++ rest) ≡ take k (drop n s) ++ rest
      rest_is =
          let e : n + k - n ≡ k = omega arith in
          drop_cut s rest n (n + k) (omega arith) inside ∙ ap (λ (i : ℕ). take i (drop n s) ++ rest) e

      most : (j : ℕ) → j ≤ length s → Begins (SeqOn L M) (take j s) → j ≤ n + k
      most j lj (more, (b, (m, lm, x, y))) = by (dec_le j n)
        where
          by : Dec (j ≤ n) → j ≤ n + k
          by (yes le) = omega arith
          by (no gt) =
              let nj : n ≤ j = omega arith in
              let all : List ℕ = take j s ++ more in
              let here : n ≤ length all = omega (arith, length_begun s more j lj) in
              let same = unique all m n b a lm here x (subst (L a) (sym (take_cut s more n j nj lj)) l) in
              let y' : M a (drop n all) = subst (λ (c : A). M c (drop n all)) same.1 (subst (λ (i : ℕ). M b (drop i all)) same.0 y) in
              let low : j - n ≤ k = h.longest (j - n) (omega (arith, length-drop n s)) (more, subst (M a) (drop_cut s more n j nj lj) y') in
              omega arith

  -- where the first part is not found, it decides
  module _ (s : List ℕ) (none : (n : ℕ) (a : A) → n ≤ length s → L a (take n s) → ⊥) where
    pub first_decides : ((a : A) (x : List ℕ) → L a x → Some (M a)) → (k : ℕ) → Longest (Any L) s k → Longest (SeqOn L M) s k
    first_decides some k h = record {
      within = h.within;
      begins = (rest ++ w, (a, (length begun, reach, subst (L a) (sym front) h.begins.1.1, subst (M a) (sym back) completed.1)));
      longest = most;
    }
      where
        rest : List ℕ
        rest = h.begins.0

        a : A
        a = h.begins.1.0

        completed : Some (M a)
        completed = some a (take k s ++ rest) h.begins.1.1

        w : List ℕ
        w = completed.0

        begun : List ℕ
        begun = take k s ++ rest

        whole : take k s ++ (rest ++ w) ≡ begun ++ w
        whole = sym (append_assoc (take k s) rest w)

        reach : length begun ≤ length (take k s ++ (rest ++ w))
        reach = omega (arith, ap length whole, length-append begun w)

        front : take (length begun) (take k s ++ (rest ++ w)) ≡ begun
        front = ap (take (length begun)) whole ∙ take_at begun w (length begun) refl

        back : drop (length begun) (take k s ++ (rest ++ w)) ≡ w
        back = ap (drop (length begun)) whole ∙ drop_at begun w (length begun) refl

        most : (j : ℕ) → j ≤ length s → Begins (SeqOn L M) (take j s) → j ≤ k
        most j lj (more, (b, (m, lm, x, y))) = by (dec_le m j)
          where
            by : Dec (m ≤ j) → j ≤ k
            by (yes le) = absurd (none m b (omega arith) (subst (L b) (take_cut s more m j le lj) x))
            by (no gt) =
                let e : m ≡ length (take j s) + (m - j) = omega (arith, length-take-le j s lj) in
                let split : take m (take j s ++ more) ≡ take j s ++ take (m - j) more =
                ap (λ (i : ℕ). take i (take j s ++ more)) e ∙ take-append-add (take j s) more (m - j) in
                h.longest j lj (take (m - j) more, (b, subst (L b) split x))

-- parts that tell nothing
module _ (L M : Language) where
  seq_on : (k : ℕ) (s : List ℕ) → Longest (SeqOn {A = Unit} (λ _. L) (λ _. M)) s k → Longest (Seq L M) s k
  seq_on k s = longest_iff (SeqOn {A = Unit} (λ _. L) (λ _. M)) (Seq L M) (λ t x. x.1) (λ t x. (tt, x)) s k

  pub longest_next : PrefixFree L → (s : List ℕ) (n k : ℕ) → n ≤ length s → L (take n s) → Longest M (drop n s) k → Longest (Seq L M) s (n + k)
  longest_next free s n k ln l h =
      seq_on (n + k) s (next_decides (λ _. L) (λ _. M) (λ s m n a b lm ln x y. (free s m n lm ln x y, refl)) s n k tt ln l h)

  pub longest_stuck : (s : List ℕ) → ((n : ℕ) → n ≤ length s → L (take n s) → ⊥) → Some M → (k : ℕ) → Longest L s k → Longest (Seq L M) s k
  longest_stuck s none some k h =
      seq_on k s
      (first_decides (λ _. L) (λ _. M) s (λ n _. none n) (λ _ _ _. some) k
      (longest_iff L (Any {A = Unit} (λ _. L)) (λ t x. (tt, x)) (λ t x. x.1) s k h))

-- a choice that the first byte has settled: texts of the other form begin with other bytes
module _ (L M : Language) (s : List ℕ) (P : ℕ → Type 0) (begin : (a : List ℕ) → M a → P (get_or a 0 0)) (apart : P (get_or s 0 0) → ⊥) where
  most : (k : ℕ) → Longest L s k → (j : ℕ) → j ≤ length s → (rest : List ℕ) → Or L M (take j s ++ rest) → j ≤ k
  most k h j lj rest (inl a) = h.longest j lj (rest, a)
  most k h zero lj rest (inr b) = omega arith
  most k h (suc j) lj rest (inr b) = absurd (apart (subst P (first_begun s rest (suc j) (omega arith) lj) (begin _ b)))

  pub longest_first : (k : ℕ) → Longest L s k → Longest (Or L M) s k
  longest_first k h = record {
    within = h.within;
    begins = (h.begins.0, inl h.begins.1);
    longest = (λ j lj b. most k h j lj b.0 b.1);
  }

-- there is one longest beginning
pub longest_one : (L : Language) (t : List ℕ) (j k : ℕ) → Longest L t j → Longest L t k → j ≡ k
longest_one L t j k a b = le_antisymm (b.longest j a.within a.begins) (a.longest k b.within b.begins)

-- texts by which a beginning can be completed
pub some_seq : (L M : Language) → Some L → Some M → Some (Seq L M)
some_seq L M (a, la) (b, mb) = (a ++ b, seq_join L M a b la mb)

-- what a step has answered decides how it goes on
module _ {A : Type 0} (refuse more : ℕ → A) {r st : Step} {x : A} {at : ℕ} (e : r ≡ st) where
  pub step_stuck : r ≡ Err at → x ≡ refuse at → x ≡ on_step refuse st more
  step_stuck f is = is ∙ ap (λ (s : Step). on_step refuse s more) (sym f ∙ e)

  pub step_next : r ≡ Ok at → x ≡ more at → x ≡ on_step refuse st more
  step_next f is = is ∙ ap (λ (s : Step). on_step refuse s more) (sym f ∙ e)

-- answers of any kind, of which some refuse
module _ {A : Type 0} (refuse : ℕ → A) where
  -- one part after another
  pub judged_seq : (L M : Language) → PrefixFree L → Some M → (s : List ℕ) (at : ℕ) (g : ℕ → A) {r : Step} → Reads L s r
      → ((n : ℕ) → n ≤ length s → Judged refuse M (drop n s) (at + n) (g (at + n))) → Judged refuse (Seq L M) s at (on_step refuse (shift at r) g)
  judged_seq L M free some s at g (stuck {k = k} h none) rest =
      inr (k, longest_stuck L M s none some k h, (λ (m, lm, a, b). none m lm a), refl)
  judged_seq L M free some s at g (found {n = n} ln l) rest = by (rest n ln)
    where
      by : Judged refuse M (drop n s) (at + n) (g (at + n)) → Judged refuse (Seq L M) s at (g (at + n))
      by (inl b) = inl (n, ln, l, b)
      by (inr (k, h, no-rest, e)) =
          let whole = longest_next L M free s n k ln l h in
          inr (
            n + k,
            whole,
            (λ (m, lm, a, b). no-rest (subst (λ (i : ℕ). M (drop i s)) (free s m n lm ln a l) b)),
            e ∙ ap refuse (add_assoc at n k),
          )

  -- the same at any place of a text
  pub judges_seq : (L M : Language) → PrefixFree L → Some M → (t : List ℕ) (step : List ℕ → Step) → ((s : List ℕ) → Reads L s (step s))
      → (g : ℕ → ℕ → A) → ((a : ℕ) → Judges refuse M t (g a))
      → Judges refuse (Seq L M) t (λ at. on_step refuse (shift at (step (drop at t))) (g at))
  judges_seq L M free some t step reads g rest at la =
      judged_seq L M free some (drop at t) at (g at) (reads (drop at t))
      λ n ln.
      subst (λ (s : List ℕ). Judged refuse M s (at + n) (g at (at + n))) (sym (drop-drop n at t))
      (rest at (at + n) (omega (arith, length-drop at t)))

  -- with the names of the form changed
  pub judged_iff : (L M : Language) → ((t : List ℕ) → L t → M t) → ((t : List ℕ) → M t → L t) → (s : List ℕ) (at : ℕ) (r : A)
      → Judged refuse L s at r → Judged refuse M s at r
  judged_iff L M to back s at r (inl a) = inl (to s a)
  judged_iff L M to back s at r (inr (k, h, no_text, e)) = inr (
    k,
    longest_iff L M to back s k h,
    (λ m. no_text (back s m)),
    e,
  )

  -- a choice that the first byte has settled
  module _ (L M : Language) (s : List ℕ) (at : ℕ) (r : A) (P : ℕ → Type 0) (begin : (a : List ℕ) → M a → P (get_or a 0 0))
      (apart : P (get_or s 0 0) → ⊥) where
    none : (L s → ⊥) → Or L M s → ⊥
    none no-first (inl a) = no-first a
    none no-first (inr b) = apart (begin s b)

    pub judged_first : Judged refuse L s at r → Judged refuse (Or L M) s at r
    judged_first (inl a) = inl (inl a)
    judged_first (inr (k, h, no-first, e)) = inr (k, longest_first L M s P begin apart k h, none no-first, e)

    pub judged_second : Judged refuse L s at r → Judged refuse (Or M L) s at r
    judged_second h = judged_iff (Or L M) (Or M L) (swap L M) (swap M L) s at r (judged_first h)
