-- Following a number in decimal and the byte after it: found whole, or stopped at the longest beginning that a number below the bound allows,
-- since each number that has been read is complete as it stands. Assumes nothing.
use Rattle.std.proofs.Common.{Ok, Err}
use Prim.Native.Nat.{ℕ, zero, suc, ◌+◌, ◌-◌, ◌/◌, ◌%◌, ◌≤◌, ◌<◌, zero-le, suc-le-suc}
use mathlib.Core.Path.{◌≡◌, refl, sym, ap, ap₂, subst, ◌∙◌}
use mathlib.Core.Bool.{Bool, true, false, not, ◌&&◌, cond}
use mathlib.Core.List.{List, [], ◌∷◌, ◌++◌, append-nil, append_assoc}
use native.Mathlib.Omega.{arith}
use native.Mathlib.Nat.{le_of_suc-le-suc}
use native.Mathlib.Decide.{dec_lt, ℕ_discrete}
use borrow.Author.Tests.{eq-eqb, ne_eqb, lt-ltb, ltb-true, le-leb, lt-leb}
use lib.Dec.{T, eqb, leb, ltb}
use lib.ListN.{length, take, drop, get_or, length-append}
use lib.Seq.{length-take-le}
use Rattle.printing.specs.Decimal.{decimal}
use Rattle.printing.proofs.Decimals.{one_digit, more_digits}
use Rattle.texts.specs.Step.{Part}
use Rattle.texts.specs.Language.{Begins, Longest, Telling, Any, Some, Unique}
use Rattle.texts.specs.Pattern.{is_word}
use Rattle.texts.specs.NumberPart.{is_digit, with_digit, digit_goes_on, part_further, part_shift, number_rest, number_step, number_at}
use Rattle.texts.specs.Telling.{Numbered, part_taken, stopped, Finds, finds, departs}

-- v becomes w by these digits
data Digits : ℕ → ℕ → List ℕ → Type 0 where
  done : {v : ℕ} → Digits v v []
  more : {v w b : ℕ} {ds : List ℕ} → T (is_digit b) → (v ≡ 0 → ⊥) → Digits (with_digit v b) w ds → Digits v w (b ∷ ds)

digit_low : (b : ℕ) → T (is_digit b) → 48 ≤ b
digit_low b d = by (dec_lt b 48)
  where
    by : Dec (b < 48) → 48 ≤ b
    by (yes l) = absurd (subst T (ap₂ ◌&&◌ (lt-leb 48 b l) refl) d)
    by (no g) = omega arith

digit_high : (b : ℕ) → T (is_digit b) → b ≤ 57
digit_high b d = by (dec_lt 57 b) (leb 48 b) d
  where
    by : Dec (57 < b) → (q : Bool) → T (q && leb b 57) → b ≤ 57
    by (no g) q h = omega arith
    by (yes l) true h = absurd (subst T (lt-leb b 57 l) h)
    by (yes l) false h = absurd h

is_digit_lem : (b : ℕ) → 48 ≤ b → b ≤ 57 → T (is_digit b)
is_digit_lem b l h = subst T (sym (ap₂ ◌&&◌ (le-leb 48 b l) (le-leb b 57 h))) tt

pub true_low : (b : ℕ) → is_digit b ≡ true → 48 ≤ b
true_low b e = digit_low b (subst T (sym e) tt)

digits_grow : {v w : ℕ} {ds : List ℕ} → Digits v w ds → v ≤ w
digits_grow done = omega arith
digits_grow (more d some rest) = omega (arith, digits_grow rest)

-- its decimal is that of v and these digits
digits_decimal : {v w : ℕ} {ds : List ℕ} → Digits v w ds → decimal w ≡ decimal v ++ ds
digits_decimal {v} done = sym (append-nil (decimal v))
digits_decimal {v} {w} (more {b = b} {ds = ds} d some rest) =
    let low : 48 ≤ b = digit_low b d in
    let high : b ≤ 57 = digit_high b d in
    let quotient : with_digit v b / 10 ≡ v = omega arith in
    let remainder : 48 + with_digit v b % 10 ≡ b = omega arith in
    let next : decimal (with_digit v b) ≡ decimal v ++ (b ∷ []) =
    more_digits (with_digit v b) (omega arith) ∙ ap₂ (λ (q c : ℕ). decimal q ++ (c ∷ [])) quotient remainder in
    digits_decimal rest ∙ ap (λ (x : List ℕ). x ++ ds) next ∙ append_assoc (decimal v) (b ∷ []) ds

digits_last : {v w : ℕ} {ds : List ℕ} (c : ℕ) → T (is_digit c) → (w ≡ 0 → ⊥) → Digits v w ds → Digits v (with_digit w c) (ds ++ (c ∷ []))
digits_last c d some done = more d some done
digits_last c d some (more e s rest) = more e s (digits_last c d some rest)

digits_one : {v w w' : ℕ} {ds : List ℕ} → Digits v w ds → Digits v w' ds → w ≡ w'
digits_one done done = refl
digits_one (more d s rest) (more e t rest') = digits_one rest rest'

digits_none : {v w : ℕ} → Digits v w [] → w ≡ v
digits_none done = refl

digits_first : {v w b : ℕ} {ds : List ℕ} → Digits v w (b ∷ ds) → T (is_digit b)
digits_first (more d some rest) = d

digits_after : {v w b : ℕ} {ds : List ℕ} → Digits v w (b ∷ ds) → (v ≡ 0 → ⊥) × Digits (with_digit v b) w ds
digits_after (more d some rest) = (some, rest)

-- every decimal is a digit and what that becomes by the others
record Read (w : ℕ) : Type 0 where
  first : ℕ
  others : List ℕ
  is_first : T (is_digit first)
  digits : Digits (first - 48) w others
  text : decimal w ≡ first ∷ others

small : (w : ℕ) → w < 10 → Read w
small w s = record {
  first = 48 + w;
  others = [];
  is_first = is_digit_lem (48 + w) (omega arith) (omega arith);
  digits = let e : 48 + w - 48 ≡ w = omega arith in subst (λ (v : ℕ). Digits v w []) (sym e) done;
  text = one_digit w s;
}

large : (w : ℕ) → 10 ≤ w → Read (w / 10) → Read w
large w l r =
    let c : ℕ = 48 + w % 10 in
    let is : with_digit (w / 10) c ≡ w = omega arith in
    record {
      first = r.first;
      others = r.others ++ (c ∷ []);
      is_first = r.is_first;
      digits =
          subst (λ (x : ℕ). Digits (r.first - 48) x (r.others ++ (c ∷ []))) is
          (digits_last c (is_digit_lem c (omega arith) (omega arith)) (λ z. omega arith) r.digits);
      text = more_digits w l ∙ ap (λ (x : List ℕ). x ++ (c ∷ [])) r.text;
    }

read_up_to : (fuel w : ℕ) → w ≤ fuel → Read w
read_up_to zero w l = small w (omega arith)
read_up_to (suc fuel) w l = by (dec_lt w 10) (read_up_to fuel (w / 10))
  where
    by : Dec (w < 10) → (w / 10 ≤ fuel → Read (w / 10)) → Read w
    by (yes s) rest = small w s
    by (no g) rest = large w (omega arith) (rest (omega arith))

read : (w : ℕ) → Read w
read w = read_up_to w w (omega arith)

-- what a byte must be that goes on with a number, both ways
both : (p q r : Bool) → T (p && q && r) → T p × T q × T r
both true true true t = (tt, tt, tt)
both true true false t = absurd t
both true false r t = absurd t
both false q r t = absurd t

join : (p q r : Bool) → T p → T q → T r → T (p && q && r)
join true true true a b c = tt
join true true false a b c = absurd c
join true false r a b c = absurd b
join false q r a b c = absurd a

and_apart : (p q : Bool) → T (p && q) → T p × T q
and_apart true q t = (tt, t)
and_apart false q t = absurd t

and_join : (p q : Bool) → T p → T q → T (p && q)
and_join true q a b = b
and_join false q a b = absurd a

below : (a b : ℕ) → T (ltb a b) → a < b
below a b t = by (ltb a b) refl t
  where
    by : (q : Bool) → ltb a b ≡ q → T q → a < b
    by true e t = ltb-true a b e
    by false e t = absurd t

is_below : (a b : ℕ) → a < b → T (ltb a b)
is_below a b l = subst T (sym (lt-ltb a b l)) tt

-- some is no zero in front
nonzero : (v : ℕ) → T (not (eqb v 0)) → v ≡ 0 → ⊥
nonzero v t z = subst (λ (q : Bool). T (not q)) (eq-eqb v 0 z) t

is_nonzero : (v : ℕ) → (v ≡ 0 → ⊥) → T (not (eqb v 0))
is_nonzero v n = subst (λ (q : Bool). T (not q)) (sym (ne_eqb v 0 n)) tt

pub goes_below : (bound v b : ℕ) → digit_goes_on bound v b ≡ true → with_digit v b < bound
goes_below bound v b e = below (with_digit v b) bound (both (is_digit b) (not (eqb v 0)) (ltb (with_digit v b) bound) (subst T (sym e) tt)).2

pub goes_low : (bound v b : ℕ) → digit_goes_on bound v b ≡ true → 48 ≤ b
goes_low bound v b e = digit_low b (both (is_digit b) (not (eqb v 0)) (ltb (with_digit v b) bound) (subst T (sym e) tt)).0

-- a part that stops at once: no text of it is empty, and none begins as this one does
module _ (L : Telling ℕ) (none_left : (w : ℕ) → L w [] → ⊥) where
  stops : Some (Any L) → (s : List ℕ) → ((w b : ℕ) (t rest : List ℕ) → s ≡ b ∷ t → L w (b ∷ rest) → ⊥) → Finds L s 0 (stopped 0)
  stops (c, x) s never = departs refl longest (λ n w ln y. nothing n w s never y)
    where
      nothing : (n w : ℕ) (s : List ℕ) → ((w b : ℕ) (t rest : List ℕ) → s ≡ b ∷ t → L w (b ∷ rest) → ⊥) → L w (take n s) → ⊥
      nothing zero w s never y = none_left w y
      nothing (suc n) w [] never y = none_left w y
      nothing (suc n) w (b ∷ s) never y = never w b s (take n s) refl y

      most : (j : ℕ) (s : List ℕ) → ((w b : ℕ) (t rest : List ℕ) → s ≡ b ∷ t → L w (b ∷ rest) → ⊥) → j ≤ length s → (rest : List ℕ) (w : ℕ)
          → L w (take j s ++ rest) → j ≤ 0
      most zero s never l rest w y = zero-le
      most (suc j) [] never l rest w y = l
      most (suc j) (b ∷ s) never l rest w y = absurd (never w b s (take j s ++ rest) refl y)

      longest : Longest (Any L) s 0
      longest = record { within = zero-le; begins = (c, x); longest = (λ j l y. most j s never l y.0 y.1.0 y.1.1) }

  -- and one that goes on behind its first byte as another
  goes : (M : Telling ℕ) (b : ℕ) → ((w : ℕ) (t : List ℕ) → M w t → L w (b ∷ t)) → ((w : ℕ) (t : List ℕ) → L w (b ∷ t) → M w t)
      → (s : List ℕ) (r : Part)
      → Finds M s 0 (part_taken r) → Finds L (b ∷ s) 0 (part_taken (part_further r))
  goes M b close apart s (Ok (p, w)) (finds {n = n} is ln x) = finds {n = suc n} {p = suc p} (omega arith) (suc-le-suc ln) (close w (take n s) x)
  goes M b close apart s (Err p) (departs {k = k} is h none) = departs {k = suc k} {p = suc p} (omega arith) longest nothing
    where
      most : (j : ℕ) → j ≤ length (b ∷ s) → Begins (Any L) (take j (b ∷ s)) → j ≤ suc k
      most zero l x = zero-le
      most (suc j) l (rest, (w, x)) = suc-le-suc (h.longest j (le_of_suc-le-suc l) (rest, (w, apart w (take j s ++ rest) x)))

      longest : Longest (Any L) (b ∷ s) (suc k)
      longest = record {
        within = suc-le-suc h.within;
        begins = (h.begins.0, (h.begins.1.0, close _ _ h.begins.1.1));
        longest = most;
      }

      nothing : (n w : ℕ) → n ≤ length (b ∷ s) → L w (take n (b ∷ s)) → ⊥
      nothing zero w l x = none_left w x
      nothing (suc n) w l x = none n w (le_of_suc-le-suc l) (apart w (take n s) x)

module _ (bound e : ℕ) where
  -- what is left of a number of which v has been read, and e after it; it tells the number
  abbrev More : ℕ → Telling ℕ
  More v w t = (ds : List ℕ) × Digits v w ds × (w < bound) × (t ≡ ds ++ (e ∷ []))

  close : (v w b : ℕ) (t : List ℕ) → T (digit_goes_on bound v b) → More (with_digit v b) w t → More v w (b ∷ t)
  close v w b t g (ds, d, l, is) =
      let p = both (is_digit b) (not (eqb v 0)) (ltb (with_digit v b) bound) g in
      (b ∷ ds, more p.0 (nonzero v p.1) d, l, ap (λ (x : List ℕ). b ∷ x) is)

  opened : (v w b : ℕ) (t : List ℕ) → (b ≡ e → ⊥) → More v w (b ∷ t) → T (digit_goes_on bound v b) × More (with_digit v b) w t
  opened v w b t other ([], d, l, is) = absurd (other (ap (λ (x : List ℕ). get_or x 0 0) is))
  opened v w b t other (c ∷ ds, d, l, is) = by (ap (λ (x : List ℕ). get_or x 0 0) is) (ap (drop 1) is) d
    where
      by : b ≡ c → t ≡ ds ++ (e ∷ []) → Digits v w (c ∷ ds) → T (digit_goes_on bound v b) × More (with_digit v b) w t
      by same rest d' =
          let d'' : Digits (with_digit v b) w ds = subst (λ (i : ℕ). Digits (with_digit v i) w ds) (sym same) (digits_after d').1 in (
            join (is_digit b) (not (eqb v 0)) (ltb (with_digit v b) bound) (subst (λ (i : ℕ). T (is_digit i)) (sym same) (digits_first d'))
                (is_nonzero v (digits_after d').0)
                (is_below (with_digit v b) bound (omega (arith, digits_grow d'', l))),
            (ds, d'', l, rest),
          )

  none_left : (v w : ℕ) → More v w [] → ⊥
  none_left v w ([], d, l, is) = let bad : ◌≡◌ {A = ℕ} 0 1 = ap length is in omega arith
  none_left v w (c ∷ ds, d, l, is) = let bad : ◌≡◌ {A = ℕ} 0 (suc (length (ds ++ (e ∷ [])))) = ap length is in omega arith

  -- a number is complete as it stands
  complete : (v : ℕ) → v < bound → More v v (e ∷ [])
  complete v l = ([], done, l, refl)

  rest_finds : (v : ℕ) → v < bound → (s : List ℕ) → Finds (More v) s 0 (part_taken (number_rest bound e v s))
  unfolding number_rest
  rest_finds v lv [] =
      stops (More v) (none_left v) (e ∷ [], (v, complete v lv)) []
      (λ w b t rest is x. let bad : ◌≡◌ {A = ℕ} 0 (suc (length t)) = ap length is in omega arith)
  rest_finds v lv (b ∷ s) = by (ℕ_discrete b e) (digit_goes_on bound v b) refl (λ l. rest_finds (with_digit v b) l s)
    where
      N : Part
      N = number_rest bound e (with_digit v b) s

      R : Bool → Bool → Part
      R p q = cond p (Ok (1, v)) (cond q (part_further N) (Err 0))

      tested : (p q : Bool) → eqb b e ≡ p → digit_goes_on bound v b ≡ q → Finds (More v) (b ∷ s) 0 (part_taken (R p q))
          → Finds (More v) (b ∷ s) 0 (part_taken (R (eqb b e) (digit_goes_on bound v b)))
      tested p q hp hq = subst (λ (r : Part). Finds (More v) (b ∷ s) 0 (part_taken r)) (sym (ap₂ R hp hq))

      by : Dec (b ≡ e) → (q : Bool) → digit_goes_on bound v b ≡ q
          → (with_digit v b < bound → Finds (More (with_digit v b)) s 0 (part_taken (number_rest bound e (with_digit v b) s)))
          → Finds (More v) (b ∷ s) 0 (part_taken (R (eqb b e) (digit_goes_on bound v b)))
      by (yes same) q hq rest =
          tested true q (eq-eqb b e same) hq
          (finds {n = 1} refl (suc-le-suc zero-le) (subst (λ (c : ℕ). More v v (c ∷ [])) (sym same) (complete v lv)))
      by (no other) true hq rest =
          let g : T (digit_goes_on bound v b) = subst T (sym hq) tt in
          let low = below (with_digit v b) bound (both (is_digit b) (not (eqb v 0)) (ltb (with_digit v b) bound) g).2 in
          tested false true (ne_eqb b e other) hq
          (goes (More v) (none_left v) (More (with_digit v b)) b (λ w t. close v w b t g) (λ w t x. (opened v w b t other x).1) s N (rest low))
      by (no other) false hq rest =
          tested false false (ne_eqb b e other) hq
          (stops (More v) (none_left v) (e ∷ [], (v, complete v lv)) (b ∷ s) (λ w c t u is x.
          let same : b ≡ c = ap (λ (y : List ℕ). get_or y 0 0) is in
          let x' : More v w (b ∷ u) = subst (λ (i : ℕ). More v w (i ∷ u)) (sym same) x in
          subst T hq (opened v w b u other x').0))

  -- the first digit
  empty_not : (w : ℕ) → Numbered bound e w [] → ⊥
  empty_not w (l, is) =
      let bad : 0 ≡ length (decimal w) + 1 = ap length is ∙ length-append (decimal w) (e ∷ []) in
      omega arith

  first_opened : (w b : ℕ) (t : List ℕ) → Numbered bound e w (b ∷ t) → T (is_digit b && ltb (b - 48) bound) × More (b - 48) w t
  first_opened w b t (l, is) =
      let r : Read w = read w in
      let whole : b ∷ t ≡ r.first ∷ (r.others ++ (e ∷ [])) = is ∙ ap (λ (x : List ℕ). x ++ (e ∷ [])) r.text in
      let same : b ≡ r.first = ap (λ (x : List ℕ). get_or x 0 0) whole in
      let d : Digits (b - 48) w r.others = subst (λ (i : ℕ). Digits (i - 48) w r.others) (sym same) r.digits in (
        and_join (is_digit b) (ltb (b - 48) bound) (subst (λ (i : ℕ). T (is_digit i)) (sym same) r.is_first)
            (is_below (b - 48) bound (omega (arith, digits_grow d, l))),
        (r.others, d, l, ap (drop 1) whole),
      )

  first_closed : (w b : ℕ) (t : List ℕ) → T (is_digit b) → More (b - 48) w t → Numbered bound e w (b ∷ t)
  first_closed w b t g (ds, d, l, is) =
      let low : 48 ≤ b = digit_low b g in
      let high : b ≤ 57 = digit_high b g in
      let back : 48 + (b - 48) ≡ b = omega arith in
      let text : decimal w ≡ b ∷ ds =
      digits_decimal d ∙ ap (λ (x : List ℕ). x ++ ds) (one_digit (b - 48) (omega arith)) ∙ ap (λ (i : ℕ). i ∷ ds) back in
      (l, ap (λ (x : List ℕ). b ∷ x) is ∙ ap (λ (x : List ℕ). x ++ (e ∷ [])) (sym text))

  pub some_numbered : 1 ≤ bound → Some (Any (Numbered bound e))
  some_numbered l = (decimal 0 ++ (e ∷ []), (0, (l, refl)))

  number_finds : 1 ≤ bound → (s : List ℕ) → Finds (Numbered bound e) s 0 (part_taken (number_step bound e s))
  unfolding number_step
  number_finds l [] =
      stops (Numbered bound e) empty_not (some_numbered l) []
      (λ w b t rest is x. let bad : ◌≡◌ {A = ℕ} 0 (suc (length t)) = ap length is in omega arith)
  number_finds l (b ∷ s) = by (is_digit b && ltb (b - 48) bound) refl
    where
      N : Part
      N = number_rest bound e (b - 48) s

      by : (q : Bool) → is_digit b && ltb (b - 48) bound ≡ q → Finds (Numbered bound e) (b ∷ s) 0 (part_taken (cond q (part_further N) (Err 0)))
      by true hq =
          let g = and_apart (is_digit b) (ltb (b - 48) bound) (subst T (sym hq) tt) in
          goes (Numbered bound e) empty_not (More (b - 48)) b (λ w t. first_closed w b t g.0) (λ w t x. (first_opened w b t x).1) s N
          (rest_finds (b - 48) (below (b - 48) bound g.1) s)
      by false hq =
          stops (Numbered bound e) empty_not (some_numbered l) (b ∷ s)
          (λ w c t u is x.
          let same : b ≡ c = ap (λ (y : List ℕ). get_or y 0 0) is in
          let x' : Numbered bound e w (b ∷ u) = subst (λ (i : ℕ). Numbered bound e w (i ∷ u)) (sym same) x in
          subst T hq (first_opened w b u x').0)

  pub finds_number : 1 ≤ bound → (t : List ℕ) (at : ℕ) → Finds (Numbered bound e) t at (part_taken (number_at bound e t at))
  finds_number l t at = by (number_step bound e (drop at t)) (number_finds l (drop at t))
    where
      by : (r : Part) → Finds (Numbered bound e) (drop at t) 0 (part_taken r) → Finds (Numbered bound e) t at (part_taken (part_shift at r))
      by (Ok (p, w)) (finds {n = n} is ln x) = finds {n = n} {p = at + p} (omega arith) ln x
      by (Err p) (departs {k = k} is h none) = departs {k = k} {p = at + p} (omega arith) h none

  -- a number ends where no digit stands
  module _ (not_digit : T (is_digit e) → ⊥) where
    ended : (v w : ℕ) (t : List ℕ) → More v w (e ∷ t) → (w ≡ v) × (t ≡ [])
    ended v w t ([], d, l, is) = (digits_none d, ap (drop 1) is)
    ended v w t (c ∷ ds, d, l, is) =
        let same : e ≡ c = ap (λ (x : List ℕ). get_or x 0 0) is in
        absurd (not_digit (subst (λ (i : ℕ). T (is_digit i)) (sym same) (digits_first d)))

    unique_rest : (s : List ℕ) (v m n a b : ℕ) → m ≤ length s → n ≤ length s → More v a (take m s) → More v b (take n s) → (m ≡ n) × (a ≡ b)
    unique_rest s v zero n a b lm ln x y = absurd (none_left v a x)
    unique_rest s v (suc m) zero a b lm ln x y = absurd (none_left v b y)
    unique_rest [] v (suc m) (suc n) a b lm ln x y = absurd (none_left v a x)
    unique_rest (c ∷ s) v (suc m) (suc n) a b lm ln x y = by (ℕ_discrete c e) (unique_rest s (with_digit v c) m n a b)
      where
        empty : (k : ℕ) → k ≤ length s → take k s ≡ [] → k ≡ 0
        empty k l is = sym (length-take-le k s l) ∙ ap length is

        by : Dec (c ≡ e)
            → (m ≤ length s → n ≤ length s → More (with_digit v c) a (take m s) → More (with_digit v c) b (take n s) → (m ≡ n) × (a ≡ b))
            → (suc m ≡ suc n) × (a ≡ b)
        by (yes same) rest =
            let p = ended v a (take m s) (subst (λ (i : ℕ). More v a (i ∷ take m s)) same x) in
            let q = ended v b (take n s) (subst (λ (i : ℕ). More v b (i ∷ take n s)) same y) in
            let em : m ≡ 0 = empty m (le_of_suc-le-suc lm) p.1 in
            let en : n ≡ 0 = empty n (le_of_suc-le-suc ln) q.1 in
            (omega arith, p.0 ∙ sym q.0)
        by (no other) rest =
            let r = rest (le_of_suc-le-suc lm) (le_of_suc-le-suc ln) (opened v a c (take m s) other x).1 (opened v b c (take n s) other y).1 in
            (ap suc r.0, r.1)

    pub unique_numbered : Unique (Numbered bound e)
    unique_numbered s zero n a b lm ln x y = absurd (empty_not a x)
    unique_numbered s (suc m) zero a b lm ln x y = absurd (empty_not b y)
    unique_numbered [] (suc m) (suc n) a b lm ln x y = absurd (empty_not a x)
    unique_numbered (c ∷ s) (suc m) (suc n) a b lm ln x y =
        let r = unique_rest s (c - 48) m n a b (le_of_suc-le-suc lm) (le_of_suc-le-suc ln) (first_opened a c (take m s) x).1
        (first_opened b c (take n s) y).1 in
        (ap suc r.0, r.1)

-- a decimal is a word: no `?` stands in it; and the first digit of a number that is not nought is no nought
pub word-append : (a b : List ℕ) → T (is_word a) → T (is_word b) → T (is_word (a ++ b))
word-append [] b wa wb = wb
word-append (c ∷ a) b wa wb =
    let w = and_apart (not (eqb c 63)) (is_word a) wa in
    and_join (not (eqb c 63)) (is_word (a ++ b)) w.0 (word-append a b w.1 wb)

digit_word : (b : ℕ) (ds : List ℕ) → T (is_digit b) → T (is_word ds) → T (is_word (b ∷ ds))
digit_word b ds d w = subst (λ (q : Bool). T (not q && is_word ds)) (sym (ne_eqb b 63 (λ z. omega (arith, digit_high b d, z)))) w

digits_word : {v w : ℕ} {ds : List ℕ} → Digits v w ds → T (is_word ds)
digits_word done = tt
digits_word (more {b = b} {ds = ds} d some rest) = digit_word b ds d (digits_word rest)

pub decimal_word : (n : ℕ) → T (is_word (decimal n))
decimal_word n =
    let r : Read n = read n in subst (λ (x : List ℕ). T (is_word x)) (sym r.text)
    (digit_word r.first r.others r.is_first (digits_word r.digits))

pub first_digit : (n : ℕ) → (b : ℕ) × (ds : List ℕ) × (decimal n ≡ b ∷ ds) × (48 ≤ b) × (b ≤ 57) × (1 ≤ n → 49 ≤ b)
first_digit n =
    let r : Read n = read n in
    (r.first, r.others, r.text, digit_low r.first r.is_first, digit_high r.first r.is_first, (λ l. by (ℕ_discrete r.first 48) l))
  where
    r' : Read n
    r' = read n

    only : {v w : ℕ} {ds : List ℕ} → v ≡ 0 → Digits v w ds → w ≡ 0
    only z done = z
    only z (more d some rest) = absurd (some z)

    by : Dec (r'.first ≡ 48) → 1 ≤ n → 49 ≤ r'.first
    by (yes z) l = let bad : n ≡ 0 = only (omega (arith, z)) r'.digits in omega arith
    by (no g) l = let low : 48 ≤ r'.first = digit_low r'.first r'.is_first in omega arith
