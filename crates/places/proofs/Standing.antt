-- What stands where: from a byte's index to its place, and back, by the tests of `stands_at`. Assumes nothing.
use Prim.Native.Nat.{ℕ, ◌+◌, ◌-◌, ◌*◌, ◌/◌, ◌%◌, ◌<◌, ◌≤◌}
use mathlib.Core.Path.{◌≡◌, refl, sym, subst, ◌∙◌}
use mathlib.Core.Bool.{Bool, true, false, cond}
use native.Mathlib.Nat.{mod-lt}
use native.Mathlib.Omega.{arith}
use borrow.Author.Tests.{lt-ltb, le-ltb, eq-eqb, ne_eqb, ltb-true, ltb-false, eqb-true, eqb-false}
use lib.Dec.{ltb, eqb}
use Rattle.places.specs.declared.Place.{Place}
use Rattle.places.specs.inner.Standing.{Stands}
use Rattle.places.specs.Layout.{blocks_for, position, header_place, entry_place, stands_at}

pub by_test : {A : Type 0} (P : A → Type 0) (t : Bool) (x y : A) → (t ≡ true → P x) → (t ≡ false → P y) → P (cond t x y)
by_test P true x y f g = f refl
by_test P false x y f g = g refl

header_stands : (i p : ℕ) → i ≡ p → p ≡ i % 512 → 2 ≤ p → p < 506 → Stands i (header_place p)
header_stands i p e m l u =
    by_test (Stands i) (ltb p 3) _ _ (λ h. omega (arith, ltb-true p 3 h)) λ h3.
    by_test (Stands i) (ltb p 4) _ _ (λ h. omega (arith, ltb-true p 4 h, ltb-false p 3 h3)) λ h4.
    by_test (Stands i) (ltb p 5) _ _ (λ h. omega (arith, ltb-true p 5 h, ltb-false p 4 h4)) λ h5.
    by_test (Stands i) (ltb p 6) _ _ (λ h. omega (arith, ltb-true p 6 h, ltb-false p 5 h5)) λ h6.
    by_test (Stands i) (ltb p 7) _ _ (λ h. omega (arith, ltb-true p 7 h, ltb-false p 6 h6)) λ h7.
    by_test (Stands i) (ltb p 23) _ _ (λ h. omega (arith, ltb-true p 23 h, ltb-false p 7 h7)) λ h23.
    by_test (Stands i) (ltb p 39) _ _ (λ h. omega (arith, ltb-true p 39 h, ltb-false p 23 h23)) λ h39.
    omega arith

entry_stands : (i s o : ℕ) → i ≡ position 1 s o → o < 24 → Stands i (entry_place 1 s o)
entry_stands i s o e l =
    by_test (Stands i) (ltb o 8) _ _
    (λ h.
    by_test (Stands i) (eqb (o % 2) 0) _ _ (λ w. omega (arith, ltb-true o 8 h, eqb-true (o % 2) 0 w))
    (λ w. omega (arith, ltb-true o 8 h, eqb-false (o % 2) 0 w)))
    (λ h. omega (arith, ltb-false o 8 h))

-- the state and the byte of its entry, of byte p of block b
located : (i b p : ℕ) → b ≡ i / 512 → p ≡ i % 512 → 0 < b → 2 ≤ p → p < 506 → i ≡ position 1 ((b - 1) * 21 + (p - 2) / 24) ((p - 2) % 24)
located i b p e m h l u = omega arith

pub stands : (i : ℕ) → Stands i (stands_at 1 i)
unfolding stands_at
stands i =
    by_test (Stands i) (ltb (i % 512) 2) _ _ (λ h. omega (arith, ltb-true (i % 512) 2 h)) λ h2.
    by_test (Stands i) (ltb (i % 512) 506) _ _
    (λ h.
    by_test (Stands i) (eqb (i / 512) 0) _ _
    (λ w.
    header_stands i (i % 512) (omega (arith, eqb-true (i / 512) 0 w)) refl (ltb-false (i % 512) 2 h2) (ltb-true (i % 512) 506 h))
    (λ w.
    let z = eqb-false (i / 512) 0 w in
    entry_stands i _ _
    (located i (i / 512) (i % 512) refl refl (omega (arith, z)) (ltb-false (i % 512) 2 h2) (ltb-true (i % 512) 506 h))
    (mod-lt (i % 512 - 2) (omega arith)))) λ h506.
    by_test (Stands i) (ltb (i % 512) 510) _ _ (λ h. (ltb-false (i % 512) 2 h2, ltb-true (i % 512) 510 h)) (λ h. ltb-false (i % 512) 510 h)

-- what a place says of its byte
pub stands_as : (i : ℕ) (place : Place) → place ≡ stands_at 1 i → Stands i place
stands_as i place e = subst (Stands i) (sym e) (stands i)

-- what stands at a byte of an entry, and that it is within the image
pub entry_at : (s o : ℕ) → o < 24 → stands_at 1 (position 1 s o) ≡ entry_place 1 s o
unfolding stands_at
entry_at s o l =
    let b : position 1 s o / 512 ≡ 1 + s / 21 = omega arith in
    let p : position 1 s o % 512 ≡ 2 + (24 * (s % 21) + o) = omega arith in
    let q : (1 + s / 21 - 1) * 21 + (2 + (24 * (s % 21) + o) - 2) / 24 ≡ s = omega arith in
    let r : (2 + (24 * (s % 21) + o) - 2) % 24 ≡ o = omega arith in
    rw (
      b,
      p,
      le-ltb (2 + (24 * (s % 21) + o)) 2 (omega arith),
      lt-ltb (2 + (24 * (s % 21) + o)) 506 (omega arith),
      ne_eqb (1 + s / 21) 0 (λ e. omega arith),
      q,
      r,
    )

pub fence_at : (s a : ℕ) → a < 4 → stands_at 1 (position 1 s (2 * a)) ≡ Place.Fence s a
fence_at s a l =
    let h : 2 * a / 2 ≡ a = omega arith in
    entry_at s (2 * a) (omega arith) ∙ rw (lt-ltb (2 * a) 8 (omega arith), eq-eqb (2 * a % 2) 0 (omega arith), h)

pub next_at_lem : (s a : ℕ) → a < 4 → stands_at 1 (position 1 s (2 * a + 1)) ≡ Place.Next s a
next_at_lem s a l =
    let h : (2 * a + 1) / 2 ≡ a = omega arith in
    entry_at s (2 * a + 1) (omega arith)
    ∙ rw (lt-ltb (2 * a + 1) 8 (omega arith), ne_eqb ((2 * a + 1) % 2) 0 (λ e. omega arith), h)

pub onward_at : (s f : ℕ) → f < 16 → stands_at 1 (position 1 s (8 + f)) ≡ Place.FenceNext s f
onward_at s f l =
    let h : 8 + f - 8 ≡ f = omega arith in
    entry_at s (8 + f) (omega arith) ∙ rw (le-ltb (8 + f) 8 (omega arith), h)

-- what stands behind the five numbers of block 0
name_at : (i : ℕ) → 7 ≤ i → i < 39
    → stands_at 1 i ≡ cond (ltb i 23) (Place.UpstreamName (i - 7)) (cond (ltb i 39) (Place.TargetName (i - 23)) Place.Nothing)
unfolding stands_at
name_at i l u =
    let b : i / 512 ≡ 0 = omega arith in
    let p : i % 512 ≡ i = omega arith in
    rw (
      b,
      p,
      le-ltb i 2 (omega arith),
      lt-ltb i 506 (omega arith),
      le-ltb i 3 (omega arith),
      le-ltb i 4 (omega arith),
      le-ltb i 5 (omega arith),
      le-ltb i 6 (omega arith),
      le-ltb i 7 (omega arith),
    )

pub upstream_at : (k : ℕ) → k < 16 → stands_at 1 (7 + k) ≡ Place.UpstreamName k
upstream_at k l =
    let h : 7 + k - 7 ≡ k = omega arith in
    name_at (7 + k) (omega arith) (omega arith) ∙ rw (lt-ltb (7 + k) 23 (omega arith), h)

pub target_at : (k : ℕ) → k < 16 → stands_at 1 (23 + k) ≡ Place.TargetName k
target_at k l =
    let h : 23 + k - 23 ≡ k = omega arith in
    name_at (23 + k) (omega arith) (omega arith) ∙ rw (le-ltb (23 + k) 23 (omega arith), lt-ltb (23 + k) 39 (omega arith), h)

pub within_image : (s o n : ℕ) → s < n → o < 24 → position 1 s o < 512 * blocks_for 1 n
within_image s o n l k = omega arith

pub number_at : (i : ℕ) → i % 512 < 2 → stands_at 1 i ≡ Place.Number
unfolding stands_at
number_at i l = rw (lt-ltb _ _ l)

pub entry_inside : (s o : ℕ) → o < 24 → position 1 s o % 512 < 510
entry_inside s o l =
    let p : position 1 s o % 512 ≡ 2 + (24 * (s % 21) + o) = omega arith in
    omega arith
