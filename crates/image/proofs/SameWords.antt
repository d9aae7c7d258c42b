-- A machine's image hangs on its header and on the words of its states and letters alone: rows that agree there have the same image, and are a
-- machine of the layout together. Assumes nothing.
use Prim.Native.Nat.{ℕ, ◌+◌, ◌*◌, ◌/◌, ◌%◌, ◌<◌}
use mathlib.Core.Path.{◌≡◌, refl, sym, ap, ap₂, subst, ◌∙◌}
use mathlib.Core.Bool.{cond}
use mathlib.Core.List.{List}
use native.Mathlib.Omega.{arith}
use native.Mathlib.Decide.{dec_lt}
use borrow.Author.Tests.{le-ltb}
use lib.Dec.{ltb}
use Rattle.operations.specs.Alphabet.{stride}
use Rattle.places.specs.declared.Place.{Place}
use Rattle.places.specs.Layout.{stands_at}
use Rattle.places.specs.inner.Standing.{Stands}
use Rattle.places.proofs.Standing.{stands}
use Rattle.blocks.proofs.Sums.{check_same}
use Rattle.image.specs.declared.machine.Header.{Header}
use Rattle.image.specs.Image.{word, half, used, value_as, value_at, check_for, byte_at, image_of, AccessWord, FenceWord, Canonical}
use Rattle.image.proofs.Fronts.{length-listed, at_listed, is_listed}

module _ (h : Header) (rows rows' : List ℕ) (same : (s a : ℕ) → s < h.states → a < stride → word rows s a ≡ word rows' s a) where
  used_same : (s a : ℕ) (f : ℕ → ℕ) → a < stride → used h s (f (word rows s a)) ≡ used h s (f (word rows' s a))
  unfolding used
  used_same s a f l = by (dec_lt s h.states)
    where
      by : Dec (s < h.states)
          → cond (ltb s h.states) (f (word rows s a)) 0 ≡ cond (ltb s h.states) (f (word rows' s a)) 0
      by (yes m) = ap (λ (w : ℕ). cond (ltb s h.states) (f w) 0) (same s a m l)
      by (no m) = rw (le-ltb s h.states (omega arith))

  placed_same : (i : ℕ) (place : Place) → Stands i place → value_as h rows i place ≡ value_as h rows' i place
  placed_same i (Place.Fence s a) at = used_same s a (λ w. w / 256) (omega (arith, at.1))
  placed_same i (Place.Next s a) at = used_same s a (λ w. w % 256) (omega (arith, at.1))
  placed_same i (Place.FenceNext s f) at = used_same s (4 + f) (λ w. w % 256) (omega (arith, at.1))
  placed_same i Place.Number at = refl
  placed_same i Place.Form at = refl
  placed_same i Place.Way at = refl
  placed_same i Place.States at = refl
  placed_same i Place.UpstreamFences at = refl
  placed_same i Place.TargetFences at = refl
  placed_same i (Place.UpstreamName k) at = refl
  placed_same i (Place.TargetName k) at = refl
  placed_same i Place.Nothing at = refl
  placed_same i Place.Check at = refl

  value_same : (i : ℕ) → value_at h rows i ≡ value_at h rows' i
  unfolding value_at
  value_same i = placed_same i (stands_at 1 i) (stands i)

  check_kept : (b : ℕ) → check_for h rows b ≡ check_for h rows' b
  unfolding check_for
  check_kept b = check_same _ _ (λ p l. value_same (512 * b + p))

  byte_same : (i : ℕ) → byte_at h rows i ≡ byte_at h rows' i
  unfolding byte_at
  byte_same i =
      ap₂ (λ (v c : ℕ). cond (ltb (i % 512) 510) v (half i c)) (value_same i) (check_kept (i / 512))

  pub image_of_words : image_of h rows ≡ image_of h rows'
  unfolding image_of
  image_of_words = is_listed _ _ _ (length-listed _ _) (λ i l. at_listed _ _ i l ∙ byte_same i)

  pub canonical_words : Canonical h rows → Canonical h rows'
  canonical_words can = record {
    way = can.way;
    some = can.some;
    states = can.states;
    ups = can.ups;
    targets = can.targets;
    upstream = can.upstream;
    target = can.target;
    accesses = (λ s a m l. subst (AccessWord h) (same s a m (omega arith)) (can.accesses s a m l));
    fences = (λ s f m l. subst (FenceWord h) (same s (4 + f) m (omega (arith, can.ups))) (can.fences s f m l));
    absent = (λ s f m l k. sym (same s (4 + f) m (omega arith)) ∙ can.absent s f m l k);
  }
