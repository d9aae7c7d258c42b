-- Parts that tell something, put together: each law follows from how far a text can be followed over one part and then another. Assumes nothing.
use Prim.Native.Nat.{ℕ, zero, suc, ◌+◌, ◌-◌, ◌≤◌, ◌<◌, zero-le, suc-le-suc}
use mathlib.Core.Path.{◌≡◌, refl, sym, ap, ap₂, ◌∙◌, subst}
use mathlib.Core.List.{List, [], ◌∷◌, ◌++◌, append-nil, append_assoc}
use mathlib.Core.Logic.{inl, inr}
use native.Mathlib.Omega.{arith}
use native.Mathlib.Nat.{add-zero, add_assoc, le_of_suc-le-suc}
use native.Mathlib.Numerals.{add-one}
use native.Mathlib.Decide.{dec_lt, ℕ_discrete}
use lib.Dec.{T}
use lib.ListN.{length, take, drop, get_or, length-append, length-drop, take-append-drop}
use lib.Seq.{take-add, take-append-le, take-take, drop-drop, drop_at, drop-cons, take_at, take-length, length-take-le}
use Rattle.ground.specs.Bytes.{name_byte}
use Rattle.texts.specs.Language.{Begins, Longest, Seq, Telling, Any, SeqOn, Or, Some, Unique, Reads, found, stuck, shift}
use Rattle.texts.specs.Step.{Step}
use Rattle.texts.specs.Pattern.{Follows, is_word, follow_at}
use Rattle.texts.specs.NamePart.{NameFormed, Ended, name_run, name_at}
use Rattle.texts.specs.Telling.{Then, Through, Items, Either, After, Word, Named}
use Rattle.texts.specs.Telling.{word_taken, name_taken, Taken, took, stopped, Finds, finds, departs}
use Rattle.texts.proofs.Language.{seq_join, length_begun, longest_one, longest_iff, longest_first, next_decides, first_decides}
use Rattle.texts.proofs.Pattern.{same_word, own_word, reads_follow}
use Rattle.texts.proofs.NamePart.{free_ended, reads_name, run_whole, some_name}

-- what stands behind the first i of the first n bytes
drop-take : (i n : ℕ) (s : List ℕ) → i ≤ n → n ≤ length s → drop i (take n s) ≡ take (n - i) (drop i s)
drop-take i n s l ln =
    let e : n ≡ i + (n - i) = omega arith in
    ap (λ (k : ℕ). drop i (take k s)) e ∙ ap (drop i) (take-add i (n - i) s) ∙ drop_at (take i s) (take (n - i) (drop i s)) i
    (length-take-le i s (omega arith))

-- one part and then another
module _ {A B : Type 0} (L : Telling A) (M : A → Telling B) where
  any_on : (t : List ℕ) → SeqOn L (λ a. Any (M a)) t → Any (Then L M) t
  any_on t (a, (n, ln, l, (b, m))) = (b, (a, (n, ln, l, m)))

  on_any : (t : List ℕ) → Any (Then L M) t → SeqOn L (λ a. Any (M a)) t
  on_any t (b, (a, (n, ln, l, m))) = (a, (n, ln, l, (b, m)))

  longest_on : (s : List ℕ) (k : ℕ) → Longest (SeqOn L (λ a. Any (M a))) s k → Longest (Any (Then L M)) s k
  longest_on = longest_iff (SeqOn L (λ a. Any (M a))) (Any (Then L M)) any_on on_any

  -- the first part of the first n bytes stands at the front of them all
  front : (s : List ℕ) (n : ℕ) (b : B) → n ≤ length s → Then L M b (take n s)
      → (a : A) × (i : ℕ) × (i ≤ n) × L a (take i s) × M a b (take (n - i) (drop i s))
  front s n b ln (a, (i, li, l, m)) =
      let le : i ≤ n = omega (arith, length-take-le n s ln) in
      (a, i, le, subst (L a) (take-take i n s le) l, subst (M a b) (drop-take i n s le ln) m)

  -- the second part need only be so where the first has told what it hangs on
  pub unique_told : Unique L → ((a : A) (x : List ℕ) → L a x → Unique (M a)) → Unique (Then L M)
  unique_told ul um s m n b c lm ln x y = by (front s m b lm x) (front s n c ln y)
    where
      by : (a : A) × (i : ℕ) × (i ≤ m) × L a (take i s) × M a b (take (m - i) (drop i s))
          → (a : A) × (i : ℕ) × (i ≤ n) × L a (take i s) × M a c (take (n - i) (drop i s)) → (m ≡ n) × (b ≡ c)
      by (a, i, li, l, p) (a', i', li', l', q) =
          let first = ul s i i' a a' (omega arith) (omega arith) l l' in
          let q' : M a c (take (n - i) (drop i s)) =
          subst (λ (j : ℕ). M a c (take (n - j) (drop j s))) (sym first.0)
          (subst (λ (z : A). M z c (take (n - i') (drop i' s))) (sym first.1) q) in
          let same : i ≡ i' = first.0 in
          let second = um a (take i s) l (drop i s) (m - i) (n - i) b c (omega (arith, length-drop i s))
          (omega (arith, length-drop i s, same)) p q' in
          (omega (arith, second.0, same), second.1)

  pub unique_then : Unique L → ((a : A) → Unique (M a)) → Unique (Then L M)
  unique_then ul um = unique_told ul (λ a x l. um a)

  pub some_told : Some (Any L) → ((a : A) (x : List ℕ) → L a x → Some (Any (M a))) → Some (Any (Then L M))
  some_told (w, (a, l)) some =
      let v = some a w l in
      (w ++ v.0, (v.1.0, (a, seq_join (L a) (M a v.1.0) w v.0 l v.1.1)))

  pub some_then : Some (Any L) → ((a : A) → Some (Any (M a))) → Some (Any (Then L M))
  some_then sl some = some_told sl (λ a x l. some a)

  module _ (t : List ℕ) (at : ℕ) where
    -- where the first part does not stand, it decides
    pub stops_told : ((a : A) (x : List ℕ) → L a x → Some (Any (M a))) → {p : ℕ} → Finds L t at (stopped p) → Finds (Then L M) t at (stopped p)
    stops_told some (departs {k = k} e h none) =
        departs e (longest_on (drop at t) k (first_decides L (λ a. Any (M a)) (drop at t) none some k h))
        (λ n b ln x. let f = front (drop at t) n b ln x in none f.1 f.0 (omega (arith, f.2)) f.3)

    pub then_stops : ((a : A) → Some (Any (M a))) → {p : ℕ} → Finds L t at (stopped p) → Finds (Then L M) t at (stopped p)
    then_stops some h = stops_told (λ a x l. some a) h

    -- where it stands, the second does
    pub then_goes : Unique L → {p : ℕ} {a : A} {r : Taken B} → Finds L t at (took p a) → Finds (M a) t p r → Finds (Then L M) t at r
    then_goes unique {p} {a} (finds {n = n} e ln l) = by
      where
        s : List ℕ
        s = drop at t

        rest : drop p t ≡ drop n s
        rest = ap (λ (i : ℕ). drop i t) e ∙ sym (drop-drop n at t)

        left : length (drop n s) ≡ length s - n
        left = length-drop n s

        by : {r : Taken B} → Finds (M a) t p r → Finds (Then L M) t at r
        by (finds {n = m} {a = b} f lm x) =
            let lm' : m ≤ length (drop n s) = subst (λ (u : List ℕ). m ≤ length u) rest lm in
            let x' : M a b (take m (drop n s)) = subst (λ (u : List ℕ). M a b (take m u)) rest x in
            let ls : n + m ≤ length s = omega (arith, left, lm', ln) in
            let whole : Seq (L a) (M a b) (take n s ++ take m (drop n s)) = seq_join (L a) (M a b) (take n s) (take m (drop n s)) l x' in
            finds (f ∙ ap (λ (i : ℕ). i + m) e ∙ add_assoc at n m) ls (a, subst (Seq (L a) (M a b)) (sym (take-add n m s)) whole)
        by (departs {k = k} f h none) =
            let h' : Longest (Any (M a)) (drop n s) k = subst (λ (u : List ℕ). Longest (Any (M a)) u k) rest h in
            departs (f ∙ ap (λ (i : ℕ). i + k) e ∙ add_assoc at n k) (longest_on s (n + k) (next_decides L (λ a. Any (M a)) unique s n k a ln l h'))
            (λ i b li x. not_there i b li (front s i b li x))
          where
            not_there : (i : ℕ) (b : B) → i ≤ length s
                → (c : A) × (j : ℕ) × (j ≤ i) × L c (take j s) × M c b (take (i - j) (drop j s)) → ⊥
            not_there i b li (c, j, lj, x, y) =
                let same = unique s j n c a (omega arith) ln x l in
                let is : j ≡ n = same.0 in
                let y' : M a b (take (i - n) (drop n s)) =
                subst (λ (z : A). M z b (take (i - n) (drop n s))) same.1 (subst (λ (q : ℕ). M c b (take (i - q) (drop q s))) is y) in
                none (i - n) b (subst (λ (u : List ℕ). i - n ≤ length u) (sym rest) (omega (arith, left, li)))
                (subst (λ (u : List ℕ). M a b (take (i - n) u)) (sym rest) y')

-- a value told in another way
module _ {A B : Type 0} (f : A → B) (L : Telling A) where
  pub unique_through : Unique L → Unique (Through f L)
  unique_through u s m n b c lm ln (x, ex, lx) (y, ey, ly) =
      let same = u s m n x y lm ln lx ly in
      (same.0, sym ex ∙ ap f same.1 ∙ ey)

  pub some_through : Some (Any L) → Some (Any (Through f L))
  some_through (w, (a, l)) = (w, (f a, (a, refl, l)))

  pub through_took : (t : List ℕ) (at : ℕ) {p : ℕ} {a : A} → Finds L t at (took p a) → Finds (Through f L) t at (took p (f a))
  through_took t at {p} {a} (finds e ln l) = finds e ln (a, refl, l)

  pub through_stopped : (t : List ℕ) (at : ℕ) {p : ℕ} → Finds L t at (stopped p) → Finds (Through f L) t at (stopped p)
  through_stopped t at (departs {k = k} e h none) =
      departs e
      (longest_iff (Any L) (Any (Through f L)) (λ t x. (f x.0, (x.0, refl, x.1))) (λ t x. (x.1.0, x.1.2)) (drop at t) k h)
      (λ n b ln x. none n x.0 ln x.2)

-- a row of parts
module _ {A : Type 0} (item : ℕ → Telling A) where
  pub unique_items : ((i : ℕ) → Unique (item i)) → (n : ℕ) → Unique (Items item n)
  unique_items u zero s m k a b lm lk (ea, em) (eb, ek) =
      (sym (length-take-le m s lm) ∙ ap length (em ∙ sym ek) ∙ length-take-le k s lk, ea ∙ sym eb)
  unique_items u (suc n) s m k a b lm lk x y =
      unique_then (Items item n) (λ before. Through (λ a. before ++ (a ∷ [])) (item n)) (unique_items u n)
      (λ before. unique_through (λ a. before ++ (a ∷ [])) (item n) (u n)) s m k a b lm lk x y

  pub some_items : ((i : ℕ) → Some (Any (item i))) → (n : ℕ) → Some (Any (Items item n))
  some_items some zero = ([], ([], (refl, refl)))
  some_items some (suc n) =
      some_then (Items item n) (λ before. Through (λ a. before ++ (a ∷ [])) (item n)) (some_items some n)
      (λ before. some_through (λ a. before ++ (a ∷ [])) (item n) (some n))

  module _ (t : List ℕ) (at : ℕ) where
    pub items_none : Finds (Items item 0) t at (took at [])
    items_none = finds (sym (add-zero at)) zero-le (refl, refl)

    module _ (u : (i : ℕ) → Unique (item i)) (n : ℕ) {p : ℕ} {values : List A} (so_far : Finds (Items item n) t at (took p values)) where
      pub items_more : {q : ℕ} {a : A} → Finds (item n) t p (took q a) → Finds (Items item (suc n)) t at (took q (values ++ (a ∷ [])))
      items_more h =
          then_goes (Items item n) (λ before. Through (λ a. before ++ (a ∷ [])) (item n)) t at (unique_items u n) so_far
          (through_took (λ a. values ++ (a ∷ [])) (item n) t p h)

      items_stuck : {q : ℕ} → Finds (item n) t p (stopped q) → Finds (Items item (suc n)) t at (stopped q)
      items_stuck h =
          then_goes (Items item n) (λ before. Through (λ a. before ++ (a ∷ [])) (item n)) t at (unique_items u n) so_far
          (through_stopped (λ a. values ++ (a ∷ [])) (item n) t p h)

    -- a row that stops stops every longer one
    items_longer : ((i : ℕ) → Some (Any (item i))) → {q : ℕ} (n all : ℕ) → n ≤ all → Finds (Items item n) t at (stopped q)
        → Finds (Items item all) t at (stopped q)
    items_longer some {q} n zero l h =
        let e : n ≡ 0 = omega arith in
        subst (λ (k : ℕ). Finds (Items item k) t at (stopped q)) e h
    items_longer some {q} n (suc all) l h = by (ℕ_discrete n (suc all)) (λ le. items_longer some n all le h)
      where
        by : Dec (n ≡ suc all) → (n ≤ all → Finds (Items item all) t at (stopped q)) → Finds (Items item (suc all)) t at (stopped q)
        by (yes e) shorter = subst (λ (k : ℕ). Finds (Items item k) t at (stopped q)) e h
        by (no ne) shorter =
            then_stops (Items item all) (λ before. Through (λ a. before ++ (a ∷ [])) (item all)) t at
            (λ before. some_through (λ a. before ++ (a ∷ [])) (item all) (some all)) (shorter (omega arith))

    pub items_stop : ((i : ℕ) → Unique (item i)) → ((i : ℕ) → Some (Any (item i))) → (n all : ℕ) → n < all → {p q : ℕ} {values : List A}
        → Finds (Items item n) t at (took p values) → Finds (item n) t p (stopped q) → Finds (Items item all) t at (stopped q)
    items_stop u some n all l so_far h = items_longer some (suc n) all (omega arith) (items_stuck u n so_far h)

-- a first byte, of which P holds as it does not of none
first_of : (P : ℕ → Type 0) → (P 0 → ⊥) → (m : ℕ) (s : List ℕ) → P (get_or (take m s) 0 0) → P (get_or s 0 0)
first_of P not zero s p = absurd (not p)
first_of P not (suc m) [] p = p
first_of P not (suc m) (b ∷ s) p = p

-- a choice: the parts begin with different bytes, of which P holds for the one and Q for the other
module _ {A : Type 0} (L M : Telling A) where
  pub unique_either : (P Q : ℕ → Type 0) → (P 0 → ⊥) → (Q 0 → ⊥) → ((b : ℕ) → P b → Q b → ⊥) → ((a : A) (x : List ℕ) → L a x → P (get_or x 0 0))
      → ((a : A) (x : List ℕ) → M a x → Q (get_or x 0 0)) → Unique L → Unique M → Unique (Either L M)
  unique_either P Q np nq apart begin-l begin-m ul um s m n a b lm ln (inl x) (inl y) = ul s m n a b lm ln x y
  unique_either P Q np nq apart begin-l begin-m ul um s m n a b lm ln (inr x) (inr y) = um s m n a b lm ln x y
  unique_either P Q np nq apart begin-l begin-m ul um s m n a b lm ln (inl x) (inr y) =
      absurd (apart _ (first_of P np m s (begin-l a (take m s) x)) (first_of Q nq n s (begin-m b (take n s) y)))
  unique_either P Q np nq apart begin-l begin-m ul um s m n a b lm ln (inr x) (inl y) =
      absurd (apart _ (first_of P np n s (begin-l b (take n s) y)) (first_of Q nq m s (begin-m a (take m s) x)))

  pub some_either : Some (Any L) → Some (Any (Either L M))
  some_either (w, (a, l)) = (w, (a, inl l))

  module _ (t : List ℕ) (at : ℕ) where
    -- texts of the other part begin with other bytes than what stands here
    pub either_first : {r : Taken A} (Q : ℕ → Type 0) → (Q 0 → ⊥) → ((a : A) (x : List ℕ) → M a x → Q (get_or x 0 0)) → (Q (get_or (drop at t) 0 0) → ⊥)
        → Finds L t at r → Finds (Either L M) t at r
    either_first Q not begin apart (finds e ln l) = finds e ln (inl l)
    either_first Q not begin apart (departs {k = k} e h none) =
        departs e (longest_iff _ _ to back s k (longest_first (Any L) (Any M) s Q first apart k h)) neither
      where
        s : List ℕ
        s = drop at t

        first : (x : List ℕ) → Any M x → Q (get_or x 0 0)
        first x (a, m) = begin a x m

        to : (x : List ℕ) → Or (Any L) (Any M) x → Any (Either L M) x
        to x (inl (a, l)) = (a, inl l)
        to x (inr (a, m)) = (a, inr m)

        back : (x : List ℕ) → Any (Either L M) x → Or (Any L) (Any M) x
        back x (a, inl l) = inl (a, l)
        back x (a, inr m) = inr (a, m)

        neither : (n : ℕ) (a : A) → n ≤ length s → Either L M a (take n s) → ⊥
        neither n a ln (inl l) = none n a ln l
        neither n a ln (inr m) = apart (first_of Q not n s (begin a (take n s) m))

swapped : {A : Type 0} (L M : Telling A) (a : A) (x : List ℕ) → Either L M a x → Either M L a x
swapped L M a x (inl l) = inr l
swapped L M a x (inr m) = inl m

-- the same from the other side
pub either_second : {A : Type 0} (L M : Telling A) (t : List ℕ) (at : ℕ) {r : Taken A} (P : ℕ → Type 0) → (P 0 → ⊥)
    → ((a : A) (x : List ℕ) → L a x → P (get_or x 0 0)) → (P (get_or (drop at t) 0 0) → ⊥) → Finds M t at r → Finds (Either L M) t at r
either_second L M t at P not begin apart h = by (either_first M L t at P not begin apart h)
  where
    by : {r : Taken _} → Finds (Either M L) t at r → Finds (Either L M) t at r
    by (finds e ln x) = finds e ln (swapped M L _ _ x)
    by (departs {k = k} e h none) =
        departs e
        (longest_iff (Any (Either M L)) (Any (Either L M)) (λ x y. (y.0, swapped M L y.0 x y.1)) (λ x y. (y.0, swapped L M y.0 x y.1))
        (drop at t) k h)
        (λ n a ln x. none n a ln (swapped L M a _ x))

-- what is left of a part behind the byte with which all its texts begin
module _ {A : Type 0} (b : ℕ) (L : Telling A) where
  pub unique_after : Unique L → Unique (After b L)
  unique_after u s m n x y lm ln p q =
      let same = u (b ∷ s) (suc m) (suc n) x y (suc-le-suc lm) (suc-le-suc ln) p q in
      (omega (arith, same.0), same.1)

  module _ (begin : (a : A) (x : List ℕ) → L a x → (y : List ℕ) × (x ≡ b ∷ y)) where
    pub some_after : Some (Any L) → Some (Any (After b L))
    some_after (w, (a, l)) = let f = begin a w l in (f.0, (a, subst (L a) f.1 l))

    pub finds_after : Some (Any L) → (t : List ℕ) (at : ℕ) {r : Taken A} → at < length t → get_or t at 0 ≡ b → Finds L t at r
        → Finds (After b L) t (at + 1) r
    finds_after (w, (c, lw)) t at l is h = by h
      where
        s : List ℕ
        s = drop (at + 1) t

        cons : drop at t ≡ b ∷ s
        cons = drop-cons t at 0 l ∙ ap₂ (λ (x : ℕ) (i : ℕ). x ∷ drop i t) is (sym (add-one at))

        long : length (drop at t) ≡ suc (length s)
        long = ap length cons

        -- the first byte begins a text of the part
        one : (k : ℕ) → Longest (Any L) (drop at t) k → 1 ≤ k
        one k h =
            let f = begin c w lw in
            h.longest 1 (omega (arith, long)) (f.0, (c, subst (λ (x : List ℕ). L c (take 1 x ++ f.0)) (sym cons) (subst (L c) f.1 lw)))

        none_empty : (a : A) → L a [] → ⊥
        none_empty a l = by-nil (begin a [] l)
          where
            by-nil : (y : List ℕ) × (◌≡◌ {A = List ℕ} [] (b ∷ y)) → ⊥
            by-nil (y, e) = let bad : ◌≡◌ {A = ℕ} 0 (suc (length y)) = ap length e in omega arith

        found : (n : ℕ) {p : ℕ} {a : A} → p ≡ at + n → n ≤ length (drop at t) → L a (take n (b ∷ s)) → Finds (After b L) t (at + 1) (took p a)
        found zero {a = a} e ln x = absurd (none_empty a x)
        found (suc n) {p = p} e ln x = finds {n = n} {p = p} (omega arith) (omega (arith, long)) x

        stop : (k : ℕ) {p : ℕ} → p ≡ at + k → Longest (Any L) (b ∷ s) k → 1 ≤ k
            → ((n : ℕ) (a : A) → n ≤ length (drop at t) → L a (take n (drop at t)) → ⊥) → Finds (After b L) t (at + 1) (stopped p)
        stop zero e h some none = absurd (omega arith)
        stop (suc k) {p = p} e h some none =
            departs {k = k} {p = p} (omega arith)
            record {
              within = le_of_suc-le-suc h.within;
              begins = h.begins;
              longest = (λ j lj x. le_of_suc-le-suc (h.longest (suc j) (suc-le-suc lj) x));
            }
            (λ n a ln x. none (suc n) a (omega (arith, long)) (subst (λ (z : List ℕ). L a (take (suc n) z)) (sym cons) x))

        by : {r : Taken A} → Finds L t at r → Finds (After b L) t (at + 1) r
        by (finds {n = n} {a = a} e ln x) = found n e ln (subst (λ (z : List ℕ). L a (take n z)) cons x)
        by (departs {k = k} e h none) = stop k e (subst (λ (z : List ℕ). Longest (Any L) z k) cons h) (one k h) none

-- words
module _ (w : List ℕ) where
  pub unique_word : Unique (Word w)
  unique_word s m n a b lm ln x y = (sym (length-take-le m s lm) ∙ ap length (x ∙ sym y) ∙ length-take-le n s ln, refl)

  pub some_word : Some (Any (Word w))
  some_word = (w, (tt, refl))

  pub finds_word : (t : List ℕ) (at : ℕ) → T (is_word w) → Finds (Word w) t at (word_taken (follow_at w t at))
  finds_word t at word = by (reads_follow w (drop at t))
    where
      own : (x : List ℕ) → x ≡ w → Follows w x
      own x e = subst (Follows w) (sym e) (own_word w word)

      by : {r : Step} → Reads (Follows w) (drop at t) r → Finds (Word w) t at (word_taken (shift at r))
      by (found ln f) = finds refl ln (same_word w _ word f)
      by (stuck {k = k} h none) =
          departs refl (longest_iff (Follows w) (Any (Word w)) (λ x f. (tt, same_word w x word f)) (λ x e. own x e.1) (drop at t) k h)
          (λ n _ ln e. none n ln (own _ e))

-- names
module _ (e : ℕ) (not-name : T (name_byte e) → ⊥) where
  pub unique_named : Unique (Named e)
  unique_named s m n a b lm ln (fa, ea) (fb, eb) = (same, names)
    where
      same : m ≡ n
      same = free_ended e not-name s m n lm ln (a, fa, ea) (b, fb, eb)

      whole : a ++ (e ∷ []) ≡ b ++ (e ∷ [])
      whole = sym ea ∙ ap (λ (i : ℕ). take i s) same ∙ eb

      long : length a ≡ length b
      long = omega (arith, ap length whole, length-append a (e ∷ []), length-append b (e ∷ []))

      names : a ≡ b
      names = sym (take_at a (e ∷ []) (length a) refl) ∙ ap (take (length a)) whole ∙ take_at b (e ∷ []) (length a) (sym long)

  pub finds_name : (t : List ℕ) (at : ℕ) → Finds (Named e) t at (name_taken t at (name_at e t at))
  finds_name t at = by (reads_name e not-name s)
    where
      s : List ℕ
      s = drop at t

      by : {r : Step} → Reads (Ended e) s r → Finds (Named e) t at (name_taken t at (shift at r))
      by (found {n = m} lm (n, f, is)) = finds refl lm (subst NameFormed told f, is ∙ ap (λ (x : List ℕ). x ++ (e ∷ [])) told)
        where
          regroup : s ≡ n ++ (e ∷ drop m s)
          regroup = sym (take-append-drop m s) ∙ ap (λ (x : List ℕ). x ++ drop m s) is ∙ append_assoc n (e ∷ []) (drop m s)

          told : n ≡ take (name_run 16 s) s
          told =
              sym (take_at n (e ∷ drop m s) (length n) refl)
              ∙ ap₂ (λ (i : ℕ) (x : List ℕ). take i x)
              (sym (ap (name_run 16) regroup ∙ run_whole 16 n (drop m s) e f.bytes f.few not-name))
              (sym regroup)
      by (stuck {k = k} h none) =
          departs refl (longest_iff (Ended e) (Any (Named e)) (λ x (n, f, is). (n, (f, is))) (λ x (n, (f, is)). (n, f, is)) s k h)
          (λ n a ln (f, is). none n ln (a, f, is))

pub some_named : (e : ℕ) → Some (Any (Named e))
some_named e = let n = some_name e in (n.0, (n.1.0, (n.1.1, n.1.2)))

-- two answers about one part are one
pub finds_one : {A : Type 0} (L : Telling A) → Unique L → (t : List ℕ) (at : ℕ) {r r' : Taken A} → Finds L t at r → Finds L t at r' → r ≡ r'
finds_one L u t at (finds {n = n} {a = a} e ln l) (finds {n = m} {a = b} f lm x) =
    let same = u (drop at t) n m a b ln lm l x in
    ap₂ took (e ∙ ap (λ (i : ℕ). at + i) same.0 ∙ sym f) same.1
finds_one L u t at (finds {n = n} {a = a} e ln l) (departs f h none) = absurd (none n a ln l)
finds_one L u t at (departs f h none) (finds {n = n} {a = a} e ln l) = absurd (none n a ln l)
finds_one L u t at (departs {k = j} e h none) (departs {k = k} f g none') =
    ap stopped (e ∙ ap (λ (i : ℕ). at + i) (longest_one (Any L) (drop at t) j k h g) ∙ sym f)

-- a part that is the whole text
module _ {A : Type 0} (L : Telling A) (t : List ℕ) {p : ℕ} where
  pub whole_told : {a : A} → Finds L t 0 (took p a) → p ≡ length t → L a t
  whole_told {a} (finds {n = n} e ln l) is =
      let at : n ≡ length t = omega arith in
      let all : take n t ≡ t = ap (λ (i : ℕ). take i t) at ∙ take-length t in
      subst (L a) all l

  -- more stands behind it
  pub whole_passed : Unique L → {a : A} → Finds L t 0 (took p a) → (p ≡ length t → ⊥) → Longest (Any L) t p × (Any L t → ⊥)
  whole_passed u {a} (finds {n = n} e ln l) more = (subst (Longest (Any L) t) (sym is) longest, not_whole)
    where
      is : p ≡ n
      is = omega arith

      longest : Longest (Any L) t n
      longest = record {
        within = ln;
        begins = ([], (a, subst (L a) (sym (append-nil (take n t))) l));
        longest = most;
      }
        where
          most : (j : ℕ) → j ≤ length t → Begins (Any L) (take j t) → j ≤ n
          most j lj (rest, (b, x)) = by (dec_lt n j)
            where
              all : List ℕ
              all = take j t ++ rest

              by : Dec (n < j) → j ≤ n
              by (no g) = omega arith
              by (yes g) =
                  let front : take n all ≡ take n t =
                  take-append-le n (take j t) rest (omega (arith, length-take-le j t lj)) ∙ take-take n j t (omega arith) in
                  let long : length all ≡ j + length rest = length_begun t rest j lj in
                  let same = u all n (length all) a b (omega (arith, long, g)) (omega arith) (subst (L a) (sym front) l)
                  (subst (L b) (sym (take-length all)) x) in
                  omega (arith, same.0, long, g)

      not_whole : Any L t → ⊥
      not_whole (b, x) = more (is ∙ (u t n (length t) a b ln (omega arith) l (subst (L b) (sym (take-length t)) x)).0)

  pub whole_stopped : Finds L t 0 (stopped p) → Longest (Any L) t p × (Any L t → ⊥)
  whole_stopped (departs {k = k} e h none) =
      let is : k ≡ p = omega arith in
      (subst (Longest (Any L) t) is h, (λ (a, x). none (length t) a (omega arith) (subst (L a) (sym (take-length t)) x)))
