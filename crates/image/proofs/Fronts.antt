-- Lists that are filled from the front, value by value: a list is known by its length and its values. Assumes nothing.
use Prim.Native.Nat.{ℕ, zero, suc, ◌+◌, ◌<◌, ◌≤◌}
use mathlib.Core.Path.{◌≡◌, refl, sym, ap, subst, ◌∙◌}
use mathlib.Core.List.{List, [], ◌∷◌, ◌++◌}
use native.Mathlib.Decide.{ℕ_discrete}
use native.Mathlib.Omega.{arith}
use denote.Param.Members.{Mut}
use Rattle.std.specs.Array.{IsFromFnResult, IsFromFnResultFrom}
use Rattle.std.specs.Fn.{Called}
use lib.ListN.{length, set, take, length-append, length-set, get_or-append}
use lib.Seq.{get_or-set_same, get_or-set_other, get_or_at, ext_get_or, get_or-take, length-take-le}
use Rattle.ground.specs.Bytes.{at}
use Rattle.image.specs.Image.{listed}
use Rattle.image.specs.inner.Filling.{Front}

pub length-listed : (n : ℕ) (f : ℕ → ℕ) → length (listed n f) ≡ n
unfolding listed
length-listed zero f = refl
length-listed (suc n) f = length-append (listed n f) (f n ∷ []) ∙ omega (arith, length-listed n f)

pub at_listed : (n : ℕ) (f : ℕ → ℕ) (i : ℕ) → i < n → at (listed n f) i ≡ f i
unfolding listed
at_listed zero f i l = absurd (omega arith)
at_listed (suc n) f i l = go (ℕ_discrete i n) (λ h. at_listed n f i h)
  where
    go : Dec (i ≡ n) → (i < n → at (listed n f) i ≡ f i) → at (listed n f ++ (f n ∷ [])) i ≡ f i
    go (yes e) h = get_or_at (listed n f) (f n) [] 0 i (length-listed n f ∙ sym e) ∙ ap f (sym e)
    go (no e) h =
        let k : i < n = omega arith in
        get_or-append (listed n f) (f n ∷ []) 0 i (omega (arith, length-listed n f)) ∙ h k

-- a list is known by its length and its values
pub is_listed : (n : ℕ) (f : ℕ → ℕ) (l : List ℕ) → length l ≡ n → ((i : ℕ) → i < n → at l i ≡ f i) → l ≡ listed n f
is_listed n f l e h =
    ext_get_or 0 l (listed n f) (e ∙ sym (length-listed n f)) (λ i k. h i (omega arith) ∙ sym (at_listed n f i (omega arith)))

-- an array that calls of a closure gave, index by index, where each call gives the value of f
module _ {F : Type 0} (g : Mut F (ℕ × Unit {0}) ℕ) (closure : F) (f : ℕ → ℕ) (l : List ℕ)
    (gives : (i v : ℕ) (after : F) → Called g closure (i, tt) v after → (after ≡ closure) × (v ≡ f i)) where
  given_from : (i n : ℕ) → IsFromFnResultFrom g closure l i n → (k : ℕ) → i ≤ k → k < i + n → at l k ≡ f k
  given_from i zero r k low high = absurd (omega arith)
  given_from i (suc n) r k low high =
      let here = gives i r.1 r.0 r.3 in
      let rest = subst (λ (q : F). IsFromFnResultFrom g q l (i + 1) n) here.0 r.4 in
      go here.1 (ℕ_discrete k i) (λ more. given_from (i + 1) n rest k more (omega arith))
    where
      go : r.1 ≡ f i → Dec (k ≡ i) → (i + 1 ≤ k → at l k ≡ f k) → at l k ≡ f k
      go v (yes e) more = ap (at l) e ∙ r.2.1 0 ∙ v ∙ ap f (sym e)
      go v (no e) more = more (omega arith)

  pub listed_from_fn : (n : ℕ) → IsFromFnResult g closure l n → l ≡ listed n f
  listed_from_fn n r = is_listed n f l r.long (λ i h. given_from 0 n r.each i (omega arith) (omega arith))

pub front_none : (f : ℕ → ℕ) (l : List ℕ) → Front f 0 l
front_none f l = record { fits = omega arith; front = λ i h. absurd (omega arith) }

-- one value more
pub front_more : {f : ℕ → ℕ} {n : ℕ} {l : List ℕ} → Front f n l → (v : ℕ) → n < length l → v ≡ f n → Front f (n + 1) (set l n v)
front_more {f} {n} {l} r v h e = record { fits = simp length-set (omega arith); front = λ i k. go i k (ℕ_discrete i n) }
  where
    go : (i : ℕ) → i < n + 1 → Dec (i ≡ n) → at (set l n v) i ≡ f i
    go i k (yes w) = ap (at (set l n v)) w ∙ get_or-set_same l n v 0 h ∙ e ∙ ap f (sym w)
    go i k (no w) = get_or-set_other l n i v 0 w ∙ r.front i (omega arith)

pub front_whole : {f : ℕ → ℕ} {n : ℕ} {l : List ℕ} → Front f n l → take n l ≡ listed n f
front_whole {f} {n} {l} r =
    is_listed n f (take n l) (length-take-le n l r.fits) (λ i h. get_or-take n l i 0 h ∙ r.front i h)

pub front_to : {f : ℕ → ℕ} {n : ℕ} {l : List ℕ} → Front f n l → (m : ℕ) → n ≡ m → Front f m l
front_to {f} {n} {l} r m e = subst (λ (x : ℕ). Front f x l) e r

pub front_all : {f : ℕ → ℕ} {n : ℕ} {l : List ℕ} → Front f n l → length l ≡ n → l ≡ listed n f
front_all {f} {n} {l} r e = is_listed n f l e r.front
