-- Every byte of a machine's image is a byte: by what stands there, a count, a byte of a name, a half of a word or of a check. Assumes nothing.
use Prim.Native.Nat.{ℕ, ◌+◌, ◌/◌, ◌%◌, ◌<◌, ◌≤◌}
use mathlib.Core.Path.{◌≡◌}
use mathlib.Core.Bool.{Bool, true, false, cond}
use mathlib.Core.Logic.{inl, inr}
use mathlib.Core.List.{List}
use native.Mathlib.Decide.{dec_lt}
use native.Mathlib.Omega.{arith}
use borrow.Author.Tests.{lt-ltb, le-ltb, le-leb, lt-leb, ne_eqb}
use lib.Dec.{eqb, ltb}
use lib.ListN.{get_or-eq_default}
use Rattle.ground.specs.Bytes.{at, name_byte}
use Rattle.ground.proofs.Truths.{not_both}
use Rattle.places.specs.declared.Place.{Place}
use Rattle.places.specs.Layout.{stands_at}
use Rattle.places.specs.inner.Standing.{Stands}
use Rattle.places.proofs.Standing.{stands}
use Rattle.image.specs.declared.machine.Header.{Header}
use Rattle.image.specs.Image.{word, half, used, value_as, value_at, check_for, byte_at, size_of, image_of, NameField, AccessWord, Canonical}
use Rattle.image.proofs.Fronts.{at_listed}
use Rattle.image.proofs.Canonicals.{length_image}

name_small : (b : ℕ) → name_byte b ≡ true → b < 256
name_small b e =
    elim (dec_lt b 256) [
      | yes l ↦ l
      | no l ↦ absurd (not_both e (large (omega arith)))
    ]
  where
    large : 256 ≤ b → name_byte b ≡ false
    large l =
        rw (
          le-leb 48 b (omega arith),
          lt-leb b 57 (omega arith),
          le-leb 65 b (omega arith),
          lt-leb b 90 (omega arith),
          le-leb 97 b (omega arith),
          lt-leb b 122 (omega arith),
          ne_eqb b 95 (λ z. omega arith),
        )

field_small : (x : List ℕ) → NameField x → (k : ℕ) → k < 16 → at x k < 256
field_small x f k l =
    elim (dec_lt k f.name) [
      | yes m ↦ name_small (at x k) (f.bytes k m)
      | no m ↦ omega (arith, f.zeros k (omega arith) l)
    ]

half_small : (i n : ℕ) → n < 65536 → half i n < 256
unfolding half
half_small i n l = by (eqb (i % 2) 0)
  where
    by : (q : Bool) → cond q (n / 256) (n % 256) < 256
    by true = omega arith
    by false = omega arith

module _ (h : Header) (rows : List ℕ) (m : Canonical h rows) where
  used_small : (s v : ℕ) → (s < h.states → v < 256) → used h s v < 256
  unfolding used
  used_small s v l =
      elim (dec_lt s h.states) [
        | yes k ↦ rw (lt-ltb s h.states k) (l k)
        | no k ↦ rw (le-ltb s h.states (omega arith)) (omega arith)
      ]

  fence_small : (s a : ℕ) → s < h.states → a < 4 → word rows s a / 256 < 256
  fence_small s a l k = by (m.accesses s a l k)
    where
      by : AccessWord h (word rows s a) → word rows s a / 256 < 256
      by (inl e) = omega (arith, e.0)
      by (inr (inl e, n)) = omega (arith, e, m.targets)
      by (inr (inr e, n)) = omega (arith, e)

  value_small : (i : ℕ) → i < size_of h → (place : Place) → Stands i place → value_as h rows i place < 256
  value_small i l Place.Number s = half_small i (i / 512) (omega (arith, m.states))
  value_small i l Place.Form s = omega arith
  value_small i l Place.Way s = omega (arith, m.way)
  value_small i l Place.States s = omega (arith, m.states)
  value_small i l Place.UpstreamFences s = omega (arith, m.ups)
  value_small i l Place.TargetFences s = omega (arith, m.targets)
  value_small i l (Place.UpstreamName k) s = field_small h.upstream m.upstream k s.1
  value_small i l (Place.TargetName k) s = field_small h.target m.target k s.1
  value_small i l (Place.Fence q a) s = used_small q (word rows q a / 256) (λ k. fence_small q a k s.1)
  value_small i l (Place.Next q a) s = used_small q (word rows q a % 256) (λ k. omega arith)
  value_small i l (Place.FenceNext q f) s = used_small q (word rows q (4 + f) % 256) (λ k. omega arith)
  value_small i l Place.Nothing s = omega arith
  value_small i l Place.Check s = omega arith

  byte_small : (i : ℕ) → i < size_of h → byte_at h rows i < 256
  unfolding byte_at value_at check_for
  byte_small i l = by (ltb (i % 512) 510)
    where
      by : (q : Bool) → cond q (value_at h rows i) (half i (check_for h rows (i / 512))) < 256
      by true = value_small i l (stands_at 1 i) (stands i)
      by false = half_small i (check_for h rows (i / 512)) (omega arith)

  pub image_bytes : (i : ℕ) → at (image_of h rows) i < 256
  unfolding image_of
  image_bytes i =
      elim (dec_lt i (size_of h)) [
        | yes l ↦ omega (arith, at_listed (size_of h) (byte_at h rows) i l, byte_small i l)
        | no l ↦
            let past : at (image_of h rows) i ≡ 0 = get_or-eq_default (image_of h rows) 0 (omega (arith, length_image h rows m)) in
            omega arith
      ]
