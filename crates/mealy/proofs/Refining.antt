-- Classes that are split by one letter at a time, and numbered in order of first occurrence. Same states are never parted; where a whole round
-- leaves their number as it was, it leaves the classes as they were, and one class is one state. Assumes nothing.
use Prim.Native.Nat.{ℕ, zero, suc, ◌+◌, ◌-◌, ◌≤◌, ◌<◌, zero-le}
use mathlib.Core.Path.{◌≡◌, refl, sym, ◌∙◌, ap}
use mathlib.Core.Logic.{⊎_elim}
use mathlib.Core.List.{List, [], ◌∷◌}
use native.Mathlib.Omega.{arith}
use native.Mathlib.Nat.{add-zero, zero-add}
use native.Mathlib.Decide.{dec_lt}
use Rattle.mealy.specs.Runs.{Answer, refused, taken, Machine, gets}
use Rattle.mealy.specs.inner.Classes.{Numbering, Closed, classed, Coarse, Stable, Split, Round, States}
use Rattle.mealy.proofs.Runs.{untaken, same_refused, same_taken}
use Rattle.mealy.proofs.Numbers.{order, split_last}

-- classes occur first in the order of their numbers
pub firsts_rise : {k : ℕ} {class : ℕ → ℕ} {n : ℕ} (x : Numbering k class n) (p q : ℕ) → p < q → q < n → x.firsts p < x.firsts q
firsts_rise {class = class} x p q l h =
    let e = x.first p (omega arith) in
    let f = x.first q h in
    ⊎_elim (λ r. r)
    (⊎_elim (λ (d : x.firsts p ≡ x.firsts q). absurd (omega (arith, e.1, f.1, ap class d)))
    (λ r. absurd (omega (arith, e.2 (x.firsts q) r, f.1))))
    (order (x.firsts p) (x.firsts q))

module _ {k : ℕ} {class finer : ℕ → ℕ} {n o : ℕ} (x : Numbering k class n) (y : Numbering k finer o)
    (fine : (i j : ℕ) → i < k → j < k → finer i ≡ finer j → class i ≡ class j) where
  -- the finer class of where a class occurs first
  abbrev at : ℕ → ℕ
  at q = finer (x.firsts q)

  at_rises : (p q : ℕ) → p < q → q < n → at p < at q
  at_rises p q l h =
      let f = x.first q h in
      let g = y.first (at q) (y.below (x.firsts q) f.0) in
      let one : class (y.firsts (at q)) ≡ class (x.firsts q) = fine (y.firsts (at q)) (x.firsts q) g.0 f.0 g.1 in
      let up : x.firsts p < x.firsts q = firsts_rise x p q l h in
      elim (dec_lt (x.firsts p) (y.firsts (at q)))
      [ yes r ↦ g.2 (x.firsts p) r | no r ↦ absurd (omega (arith, one, f.1, f.2 (y.firsts (at q)) (omega arith))) ]

  at_spreads : (p d : ℕ) → p + d < n → at p + d ≤ at (p + d)
  at_spreads p zero h = simp add-zero (omega arith)
  at_spreads p (suc d) h =
      let prior : at p + d ≤ at (p + d) = at_spreads p d (omega arith) in
      let next : at (p + d) < at (p + suc d) = at_rises (p + d) (p + suc d) (omega arith) h in
      omega arith

  -- finer classes are no fewer
  finer_more : n ≤ o
  finer_more = look n refl
    where
      look : (l : ℕ) → n ≡ l → l ≤ o
      look zero e = zero-le
      look (suc l) e =
          let top : at 0 + l ≤ at (0 + l) = at_spreads 0 l (omega arith) in
          omega (arith, top, y.below (x.firsts (0 + l)) (x.first (0 + l) (omega arith)).0)

  -- and where they are as many, they are the same
  finer_same : n ≡ o → (i : ℕ) → i < k → finer i ≡ class i
  finer_same e i h =
      let r : ℕ = finer i in
      let low : r < o = y.below i h in
      let up : at 0 + r ≤ at (0 + r) = at_spreads 0 r (omega arith) in
      let top : at r + (n - suc r) ≤ at (r + (n - suc r)) = at_spreads r (n - suc r) (omega arith) in
      let end : at (r + (n - suc r)) < o = y.below _ (x.first (r + (n - suc r)) (omega arith)).0 in
      let here : at r ≡ r = omega (arith, low, e, end, top, rw zero-add at up) in
      let f = x.first r (omega arith) in
      sym (fine i (x.firsts r) h f.0 (sym here) ∙ f.1)

module _ {O : Type 0} {m : Machine ℕ O} {k : ℕ} (closed : Closed m k) where
  -- splitting parts no same states, of the first p situations too
  pub split_coarse : (p : ℕ) {class finer : ℕ → ℕ} (a : ℕ) → p ≤ k → Coarse m k class → Split m p class a finer → Coarse m p finer
  split_coarse p {class} {finer} a le coarse split i j h l s =
      (split i j h l).1 (coarse i j (omega arith) (omega arith) s, look (m.step i a) refl)
    where
      look : (y : Answer O ℕ) → m.step i a ≡ y → classed class (m.step i a) ≡ classed class (m.step j a)
      look refused e = rw (e, same_refused m a s e)
      look (taken o u) e =
          let to = same_taken m a s e in
          let h : u < k = closed.stays i a o u (omega arith) e in
          let l : to.0 < k = closed.stays j a o to.0 (omega arith) to.1 in
          rw (e, to.1) (ap (taken o) (coarse u to.0 h l to.2))

  classed_alike : {class finer : ℕ → ℕ} → ((i : ℕ) → i < k → finer i ≡ class i) → (i a : ℕ) → i < k
      → classed finer (m.step i a) ≡ classed class (m.step i a)
  classed_alike {class} {finer} alike i a h = look (m.step i a) refl
    where
      look : (y : Answer O ℕ) → m.step i a ≡ y → classed finer y ≡ classed class y
      look refused e = refl
      look (taken o u) e = ap (taken o) (alike u (closed.stays i a o u h e))

  stable_alike : {class finer : ℕ → ℕ} (b : ℕ) → ((i : ℕ) → i < k → finer i ≡ class i) → Stable m k class b → Stable m k finer b
  stable_alike b alike stable i j h l e =
      classed_alike alike i b h ∙ stable i j h l (sym (alike i h) ∙ e ∙ alike j l) ∙ sym (classed_alike alike j b l)

  pub round_start : {class : ℕ → ℕ} {n : ℕ} → Numbering k class n → Coarse m k class → Round m k n class n 0
  round_start x c = record { numbering = x; coarse = c; grown = omega arith; stable = λ e b l. absurd (omega arith) }

  pub round_next : {began : ℕ} {class finer : ℕ → ℕ} {n o a : ℕ} → Round m k began class n a → Split m k class a finer → Numbering k finer o
      → Round m k began finer o (a + 1)
  round_next {began} {class} {finer} {n} {o} {a} x split y =
      record {
        numbering = y;
        coarse = split_coarse k a (omega arith) x.coarse split;
        grown = omega (arith, x.grown, more);
        stable = λ e b l.
            ⊎_elim (λ (r : b < a). stable_alike b (alike e) (x.stable (omega (arith, x.grown, more)) b r))
            (λ r. here e b r)
            (split_last b a l);
      }
    where
      fine : (i j : ℕ) → i < k → j < k → finer i ≡ finer j → class i ≡ class j
      fine i j h l e = ((split i j h l).0 e).0

      more : n ≤ o
      more = finer_more x.numbering y fine

      alike : o ≡ began → (i : ℕ) → i < k → finer i ≡ class i
      alike e = finer_same x.numbering y fine (omega (arith, x.grown, more))

      here : o ≡ began → (b : ℕ) → b ≡ a → Stable m k finer b
      here e b r i j h l f =
          rw r
          (classed_alike (alike e) i a h ∙ ((split i j h l).0 f).1 ∙ sym (classed_alike (alike e) j a l))

  -- classes that no letter parts are same states
  stable_same : {class : ℕ → ℕ} → ((a : ℕ) → a < m.letters → Stable m k class a) → (w : List ℕ) (i j : ℕ) → i < k → j < k → class i ≡ class j
      → gets m i w ≡ gets m j w
  stable_same stable [] i j h l e = refl
  stable_same {class} stable (a ∷ w) i j h l e =
      elim (dec_lt a m.letters) [
        | yes q ↦ look (λ u v. stable_same stable w u v) (m.step i a) refl (m.step j a) refl (stable a q i j h l e)
        | no q ↦ rw (m.outside i a (omega arith), m.outside j a (omega arith))
      ]
    where
      look : ((u v : ℕ) → u < k → v < k → class u ≡ class v → gets m u w ≡ gets m v w)
          → (y : Answer O ℕ) → m.step i a ≡ y → (z : Answer O ℕ) → m.step j a ≡ z → classed class (m.step i a) ≡ classed class (m.step j a)
          → gets m i (a ∷ w) ≡ gets m j (a ∷ w)
      look ih refused d refused f g = rw (d, f)
      look ih refused d (taken p v) f g = absurd (untaken (rw (d, f) at g))
      look ih (taken o u) d refused f g = absurd (untaken (sym (rw (d, f) at g)))
      look ih (taken o u) d (taken p v) f g =
          let both : taken o (class u) ≡ taken p (class v) = rw (d, f) at g in
          let one : class u ≡ class v = cc in
          let out : o ≡ p = cc in
          rw (d, f, out, ih u v (closed.stays i a o u h d) (closed.stays j a p v l f) one)

  -- a round that leaves the count as it was
  pub round_end : {class : ℕ → ℕ} {n : ℕ} → Round m k n class n m.letters → States m k class n
  round_end x =
      record {
        numbering = x.numbering;
        states = λ i j h l. (λ e. record { same = λ w. stable_same (x.stable refl) w i j h l e }, x.coarse i j h l);
      }
