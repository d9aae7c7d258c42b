-- The lowest place at which a test passes: met by a walk upwards, and known by what the test says there and below. Assumes nothing.
use Rattle.std.proofs.Common.{Option, Some, None}
use Prim.Native.Nat.{ℕ, zero, suc, ◌+◌, ◌-◌, ◌<◌, ◌≤◌}
use mathlib.Core.Path.{◌≡◌, refl, sym, ap, ◌∙◌}
use mathlib.Core.Bool.{Bool, true, false, cond}
use native.Mathlib.Numerals.{add-one}
use native.Mathlib.Decide.{dec_lt}
use native.Mathlib.Omega.{arith}
use Rattle.std.specs.List.{find, range_with_len}
use Rattle.ground.specs.Lowest.{lowest}
use Rattle.ground.proofs.Truths.{differ}

-- nothing was found below k
module _ (f : ℕ → Bool) (n : ℕ) where
  first : (k m : ℕ) → n - k ≡ suc m → lowest f k (n - k) ≡ cond (f k) (Some k) (lowest f (suc k) m)
  unfolding lowest
  first k m e = rw e

  pub lowest_here : (k : ℕ) → lowest f 0 n ≡ lowest f k (n - k) → k < n → f k ≡ true → Some k ≡ lowest f 0 n
  lowest_here k h l t = sym (h ∙ first k (n - suc k) (omega arith) ∙ rw t)

  pub lowest_step : (k : ℕ) → k < n → f k ≡ false → lowest f k (n - k) ≡ lowest f (k + 1) (n - (k + 1))
  lowest_step k l t = first k (n - suc k) (omega arith) ∙ rw (t, add-one)

  pub lowest_on : (k : ℕ) → lowest f 0 n ≡ lowest f k (n - k) → k < n → f k ≡ false → lowest f 0 n ≡ lowest f (k + 1) (n - (k + 1))
  lowest_on k h l t = h ∙ lowest_step k l t

  pub lowest_none : (k : ℕ) → lowest f 0 n ≡ lowest f k (n - k) → n ≤ k → None ≡ lowest f 0 n
  unfolding lowest
  lowest_none k h l = let e : n - k ≡ 0 = omega arith in sym (h ∙ rw e)

  pub lowest_start : lowest f 0 n ≡ lowest f 0 (n - 0)
  lowest_start = let e : n - 0 ≡ n = omega arith in rw e

module _ (f : ℕ → Bool) where
  -- what the search for the lowest finds from i on: its first step, by the test there
  lowest_at : (i n : ℕ) (b : Bool) → f i ≡ b → (x : Option ℕ) → lowest f i (suc n) ≡ x → cond b (Some i) (lowest f (suc i) n) ≡ x
  unfolding lowest
  lowest_at i n b p x e = sym (ap (λ (b : Bool). cond b (Some i) (lowest f (suc i) n)) p) ∙ e

  -- the test fails from i up to g
  abbrev pub NoneFrom : ℕ → ℕ → Type 0
  NoneFrom i g = (h : ℕ) → i ≤ h → h < g → f h ≡ false

  none_more : (i g : ℕ) → f i ≡ false → NoneFrom (suc i) g → NoneFrom i g
  none_more i g p rest h l u = at (dec_lt i h)
    where
      at : Dec (i < h) → f h ≡ false
      at (yes m) = rest h m u
      at (no m) =
          let e : h ≡ i = omega arith in
          ap f e ∙ p

  pub lowest_takes : (i n g : ℕ) → lowest f i n ≡ Some g → (i ≤ g) × (g < i + n) × (f g ≡ true) × NoneFrom i g
  unfolding lowest
  lowest_takes i zero g e = differ (cc)
  lowest_takes i (suc n) g e = at (f i) refl (lowest_takes (suc i) n g)
    where
      at : (b : Bool) → f i ≡ b
          → (lowest f (suc i) n ≡ Some g → (suc i ≤ g) × (g < suc i + n) × (f g ≡ true) × NoneFrom (suc i) g)
          → (i ≤ g) × (g < i + suc n) × (f g ≡ true) × NoneFrom i g
      at true p rest =
          let q : Some i ≡ Some g = lowest_at i n true p (Some g) e in
          let m : i ≡ g = cc in
          (omega arith, omega arith, sym (ap f m) ∙ p, λ h l u. absurd (omega arith))
      at false p rest =
          let w = rest (lowest_at i n false p (Some g) e) in
          (omega (arith, w.0), omega (arith, w.1), w.2, none_more i g p w.3)

  pub lowest_nowhere : (i n : ℕ) → lowest f i n ≡ None → NoneFrom i (i + n)
  unfolding lowest
  lowest_nowhere i zero e h l u = absurd (omega arith)
  lowest_nowhere i (suc n) e h l u = at (f i) refl (lowest_nowhere (suc i) n)
    where
      at : (b : Bool) → f i ≡ b → (lowest f (suc i) n ≡ None → NoneFrom (suc i) (suc i + n)) → f h ≡ false
      at true p rest =
          let q : Some i ≡ None = lowest_at i n true p None e in
          differ (cc)
      at false p rest = none_more i (suc i + n) p (rest (lowest_at i n false p None e)) h l (omega arith)

  -- and the other way round

  pub takes_lowest : (i n g : ℕ) → i ≤ g → g < i + n → f g ≡ true → NoneFrom i g → lowest f i n ≡ Some g
  unfolding lowest
  takes_lowest i zero g l u t none = absurd (omega arith)
  takes_lowest i (suc n) g l u t none = at (dec_lt i g) (λ m. takes_lowest (suc i) n g m (omega arith) t (λ h p q. none h (omega arith) q))
    where
      at : Dec (i < g) → (suc i ≤ g → lowest f (suc i) n ≡ Some g) → cond (f i) (Some i) (lowest f (suc i) n) ≡ Some g
      at (yes m) rest = rw (none i (omega arith) m) (rest m)
      at (no m) rest =
          let e : g ≡ i = omega arith in
          let here : f i ≡ true = sym (ap f e) ∙ t in
          rw here (ap Some (sym e))

  pub none_nowhere : (i n : ℕ) → NoneFrom i (i + n) → lowest f i n ≡ None
  unfolding lowest
  none_nowhere i zero none = refl
  none_nowhere i (suc n) none =
      rw (none i (omega arith) (omega arith)) (none_nowhere (suc i) n (λ h l u. none h (omega arith) (omega arith)))

  -- what `find` of the library finds in a range is the lowest
  pub find_lowest : (k n : ℕ) → find f (range_with_len k n) ≡ lowest f k n
  unfolding lowest
  find_lowest k zero = refl
  find_lowest k (suc n) =
      ap (λ (x : Option ℕ). cond (f k) (Some k) x) (ap (λ (j : ℕ). find f (range_with_len j n)) (add-one k) ∙ find_lowest (suc k) n)
