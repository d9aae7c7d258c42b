-- Tests and strengths taken over many pairs. Assumes nothing.
use Prim.Native.Nat.{ℕ, zero, suc, ◌≤◌, ◌<◌, max, min}
use mathlib.Core.Path.{◌≡◌, refl, sym, ap, ap₂, ◌∙◌}
use mathlib.Core.Bool.{Bool, true, false, cond}
use mathlib.Core.List.{List, [], ◌∷◌, map}
use native.Mathlib.Decide.{dec_lt}
use native.Mathlib.Omega.{arith}
use borrow.Author.Tests.{eq-eqb, eqb-true}
use lib.Dec.{eqb}
use Rattle.ground.proofs.Truths.{not_both}
use Rattle.tables.specs.Table.{excess}
use Rattle.tables.proofs.Excess.{excess_none, excess_of_higher, excess_over_lower}
use Rattle.rule.specs.Pairs.{one_of, every, every_below}
use Rattle.rule.specs.Situation.{highest_below, least_below}

-- tests

both_true : (a b : Bool) → cond a b false ≡ true → (a ≡ true) × (b ≡ true)
both_true true b e = (refl, e)
both_true false b e = absurd (not_both e refl)

true_both : (a b : Bool) → a ≡ true → b ≡ true → cond a b false ≡ true
true_both a b p q = ap₂ (λ (x y : Bool). cond x y false) p q

either : (b : Bool) → cond b true true ≡ true
either true = refl
either false = refl

-- two tests that pass together are equal
pub same_test : (a b : Bool) → (a ≡ true → b ≡ true) → (b ≡ true → a ≡ true) → a ≡ b
same_test true b f g = sym (f refl)
same_test false true f g = g refl
same_test false false f g = refl

pub every_below_lem : (n : ℕ) (f : ℕ → Bool) → every_below n f ≡ true → (i : ℕ) → i < n → f i ≡ true
every_below_lem zero f e i l = absurd (omega arith)
every_below_lem (suc n) f e i l = at (λ h. every_below_lem n f (both_true (every_below n f) (f n) e).0 i h) (dec_lt i n)
  where
    at : (i < n → f i ≡ true) → Dec (i < n) → f i ≡ true
    at lower (yes h) = lower h
    at lower (no h) =
        let m : i ≡ n = omega arith in
        ap f m ∙ (both_true (every_below n f) (f n) e).1

pub below_every : (n : ℕ) (f : ℕ → Bool) → ((i : ℕ) → i < n → f i ≡ true) → every_below n f ≡ true
below_every zero f h = refl
below_every (suc n) f h = true_both (every_below n f) (f n) (below_every n f (λ i l. h i (omega arith))) (h n (omega arith))

-- where not every test passes, there is one that does not
pub some_fails : (n : ℕ) (f : ℕ → Bool) → every_below n f ≡ false → (i : ℕ) × (i < n) × (f i ≡ false)
some_fails zero f e = absurd (not_both refl e)
some_fails (suc n) f e = at (every_below n f) refl (some_fails n f)
  where
    at : (b : Bool) → every_below n f ≡ b → (every_below n f ≡ false → (i : ℕ) × (i < n) × (f i ≡ false)) → (i : ℕ) × (i < suc n) × (f i ≡ false)
    at true p lower = (n, omega arith, sym (ap (λ (b : Bool). cond b (f n) false) p) ∙ e)
    at false p lower = let w = lower p in (w.0, omega (arith, w.1), w.2)

module _ {A : Type 0} (number : A → ℕ) (known : (a b : A) → number a ≡ number b → a ≡ b) (f : A → Bool) where
  pub every_at : (l : List A) → every f l ≡ true → (a : A) → one_of (map number l) (number a) ≡ true → f a ≡ true
  every_at [] e a m = absurd (not_both m refl)
  every_at (x ∷ l) e a m = at (eqb (number x) (number a)) refl (every_at l (both_true (f x) (every f l) e).1 a)
    where
      at : (b : Bool) → eqb (number x) (number a) ≡ b → (one_of (map number l) (number a) ≡ true → f a ≡ true) → f a ≡ true
      at true p rest = ap f (known a x (sym (eqb-true _ _ p))) ∙ (both_true (f x) (every f l) e).0
      at false p rest = rest (sym (ap (λ (b : Bool). cond b true (one_of (map number l) (number a))) p) ∙ m)

  pub at_every : (l : List A) → ((a : A) → one_of (map number l) (number a) ≡ true → f a ≡ true) → every f l ≡ true
  at_every [] h = refl
  at_every (x ∷ l) h =
      true_both (f x) (every f l)
      (h x (ap (λ (b : Bool). cond b true (one_of (map number l) (number x))) (eq-eqb (number x) (number x) refl)))
      (at_every l (λ a m. h a (ap (cond (eqb (number x) (number a)) true) m ∙ either (eqb (number x) (number a)))))

-- where not every element passes, there is one that does not
pub one_fails : {A : Type 0} (number : A → ℕ) (f : A → Bool) (l : List A) → every f l ≡ false
    → (a : A) × (one_of (map number l) (number a) ≡ true) × (f a ≡ false)
one_fails number f [] e = absurd (not_both refl e)
one_fails number f (x ∷ l) e = at (f x) refl (one_fails number f l)
  where
    at : (b : Bool) → f x ≡ b → (every f l ≡ false → (a : _) × (one_of (map number l) (number a) ≡ true) × (f a ≡ false))
        → (a : _) × (one_of (map number (x ∷ l)) (number a) ≡ true) × (f a ≡ false)
    at true p rest =
        let w = rest (sym (ap (λ (b : Bool). cond b (every f l) false) p) ∙ e) in
        (w.0, ap (cond (eqb (number x) (number w.0)) true) w.1 ∙ either (eqb (number x) (number w.0)), w.2)
    at false p rest = (x, ap (λ (b : Bool). cond b true (one_of (map number l) (number x))) (eq-eqb (number x) (number x) refl), p)

-- strengths

pub highest_cong : (n : ℕ) (f g : ℕ → ℕ) → ((i : ℕ) → i < n → f i ≡ g i) → highest_below n f ≡ highest_below n g
highest_cong zero f g h = refl
highest_cong (suc n) f g h = ap₂ max (highest_cong n f g (λ i l. h i (omega arith))) (h n (omega arith))

pub least_cong : (n : ℕ) (f g : ℕ → ℕ) → ((i : ℕ) → i < n → f i ≡ g i) → least_below n f ≡ least_below n g
least_cong zero f g h = refl
least_cong (suc n) f g h = ap₂ min (least_cong n f g (λ i l. h i (omega arith))) (h n (omega arith))

pub highest_at_most : (n : ℕ) (f : ℕ → ℕ) (x : ℕ) → ((i : ℕ) → i < n → f i ≤ x) → highest_below n f ≤ x
highest_at_most zero f x h = omega arith
highest_at_most (suc n) f x h = omega (arith, highest_at_most n f x (λ i l. h i (omega arith)), h n (omega arith))

pub highest_from : (n : ℕ) (f : ℕ → ℕ) (i : ℕ) → i < n → f i ≤ highest_below n f
highest_from zero f i l = absurd (omega arith)
highest_from (suc n) f i l = at (λ h. highest_from n f i h) (dec_lt i n)
  where
    at : (i < n → f i ≤ highest_below n f) → Dec (i < n) → f i ≤ max (highest_below n f) (f n)
    at lower (yes h) = omega (arith, lower h)
    at lower (no h) =
        let e : i ≡ n = omega arith in
        omega (arith, ap f e)

pub least_below_lem : (n : ℕ) (f : ℕ → ℕ) → least_below n f < 4
least_below_lem zero f = omega arith
least_below_lem (suc n) f = omega (arith, least_below_lem n f)

pub highest_both : (n : ℕ) (f g : ℕ → ℕ) → highest_below n (λ (i : ℕ). max (f i) (g i)) ≡ max (highest_below n f) (highest_below n g)
highest_both zero f g = omega arith
highest_both (suc n) f g = omega (arith, highest_both n f g)

-- strengths of those that count: the others give `-` to the highest and S to the least

pub cond_higher : (b : Bool) (x y : ℕ) → cond b (max x y) 0 ≡ max (cond b x 0) (cond b y 0)
cond_higher true x y = refl
cond_higher false x y = omega arith

cond_excess : (b : Bool) (x g : ℕ) → cond b (excess x g) 0 ≡ excess (cond b x 0) g
cond_excess true x g = refl
cond_excess false x g = sym (excess_none 0 g (omega arith))

cond_over : (b : Bool) (x o : ℕ) → x ≤ 3 → cond b (excess x o) 0 ≡ excess x (cond b o 3)
cond_over true x o h = refl
cond_over false x o h = sym (excess_none x 3 h)

cond_raised : (b : Bool) (o g : ℕ) → g ≤ 3 → cond b (max o g) 3 ≡ max (cond b o 3) g
cond_raised true o g h = refl
cond_raised false o g h = omega arith

module _ (p : ℕ → Bool) where
  -- what exceeds the least of several exceeds one of them
  pub excess_over_least : (n x : ℕ) (o : ℕ → ℕ) → x ≤ 3
      → highest_below n (λ (i : ℕ). cond (p i) (excess x (o i)) 0) ≡ excess x (least_below n (λ (i : ℕ). cond (p i) (o i) 3))
  excess_over_least zero x o h = sym (excess_none x 3 h)
  excess_over_least (suc n) x o h =
      ap₂ max (excess_over_least n x o h) (cond_over (p n) x (o n) h) ∙ sym (excess_over_lower x _ _)

  pub excess_of_highest : (n g : ℕ) (x : ℕ → ℕ)
      → highest_below n (λ (i : ℕ). cond (p i) (excess (x i) g) 0) ≡ excess (highest_below n (λ (i : ℕ). cond (p i) (x i) 0)) g
  excess_of_highest zero g x = sym (excess_none 0 g (omega arith))
  excess_of_highest (suc n) g x =
      ap₂ max (excess_of_highest n g x) (cond_excess (p n) (x n) g) ∙ sym (excess_of_higher _ _ g)

  pub least_raised : (n g : ℕ) (o : ℕ → ℕ) → g ≤ 3
      → least_below n (λ (i : ℕ). cond (p i) (max (o i) g) 3) ≡ max (least_below n (λ (i : ℕ). cond (p i) (o i) 3)) g
  least_raised zero g o h = omega arith
  least_raised (suc n) g o h = ap₂ min (least_raised n g o h) (cond_raised (p n) (o n) g h) ∙ raised _ _ g
    where
      raised : (a b g : ℕ) → min (max a g) (max b g) ≡ max (min a b) g
      raised a b g = omega arith
