-- An image that is accepted has no fault, since nothing was found by either search: its blocks are whole, its length is what its states want, and
-- every byte of an entry is one that its place allows. Assumes nothing.
use Rattle.std.proofs.Common.{Option, Some, None, Ok, Err}
use Prim.Native.Nat.{ℕ, ◌+◌, ◌-◌, ◌*◌, ◌/◌, ◌<◌, ◌≤◌}
use mathlib.Core.Path.{◌≡◌, refl, ap, subst}
use mathlib.Core.Bool.{Bool, true, false, not, cond}
use mathlib.Core.Logic.{◌⊎◌, inl, inr}
use mathlib.Core.List.{List}
use native.Mathlib.Decide.{ℕ_discrete, dec_lt}
use native.Mathlib.Omega.{arith}
use borrow.Author.Tests.{lt-ltb, le-leb, ne_eqb, ltb-false, leb-false, eqb-true, eqb-false}
use lib.Dec.{leb, ltb, eqb}
use lib.ListN.{length}
use Rattle.ground.specs.Bytes.{at}
use Rattle.ground.proofs.Truths.{differ, true_false}
use Rattle.answers.specs.declared.Refusal.{Refusal}
use Rattle.places.specs.declared.Place.{Place}
use Rattle.blocks.specs.Checksum.{two_bytes}
use Rattle.places.specs.Layout.{limit, blocks_for, stands_at, position}
use Rattle.blocks.specs.Wrong.{wrong}
use Rattle.barred.specs.Barred.{wrong_count, barred_fence, next_below, states_of, upstream_fences_of, target_fences_of}
use Rattle.layout.specs.Verdict.{block_count}
use Rattle.barred.specs.Barred.{barred_as, barred}
use Rattle.layout.specs.Verdict.{lowest_wrong, lowest_barred, stages, verdict_of}
use Rattle.layout.specs.inner.Faultless.{Faultless, Block}
use Rattle.ground.proofs.Lowest.{lowest_nowhere}
use Rattle.layout.proofs.Failing.{neither, chosen, equal}
use Rattle.places.proofs.Standing.{fence_at, next_at_lem, onward_at, within_image}

-- the stages of an acceptance
staged : (f g : Option ℕ) → stages f g ≡ Ok tt → (f ≡ None) × (g ≡ None)
staged (Some b) g e = differ (cc)
staged None (Some i) e = differ (cc)
staged None None e = (refl, refl)

pub accepted_faultless : (image : List ℕ) → verdict_of image ≡ Ok tt → Faultless image
unfolding verdict_of
accepted_faultless image e = go (ltb limit (length image)) refl e
  where
    go : (t : Bool) → ltb limit (length image) ≡ t
        → cond t (Err Refusal.OverLimit)
        (stages (lowest_wrong image) (lowest_barred image))
        ≡ Ok tt
        → Faultless image
    go true h w = differ (cc)
    go false h w =
        let s = staged _ _ w in
        record {
          fits = ltb-false limit (length image) h;
          blocks = λ b l. lowest_nowhere (wrong image) 0 (block_count image) s.0 b (omega arith) (omega arith);
          bytes = λ i l. lowest_nowhere (barred image) 0 (length image) s.1 i (omega arith) (omega arith);
        }

right_block : (image : List ℕ) (b : ℕ) → wrong image b ≡ false → Block image b
unfolding wrong
right_block image b e =
    let s = neither (ltb (length image) (512 * b + 512)) e in
    let t = chosen (eqb (two_bytes (at image (512 * b)) (at image (512 * b + 1))) b) s.1 in
    record {
      whole = ltb-false (length image) (512 * b + 512) s.0;
      number = eqb-true (two_bytes (at image (512 * b)) (at image (512 * b + 1))) b t.0;
      check = equal _ _ t.1;
    }

module _ (image : List ℕ) (faultless : Faultless image) where
  pub first_block : 512 ≤ length image
  first_block = omega (arith, (right_block image 0 (faultless.blocks 0 (omega arith))).whole)

  pub unbarred : (i : ℕ) → i < length image → barred_as image i (at image i) (stands_at 1 i) ≡ false
  unfolding barred
  unbarred i l = faultless.bytes i l

  pub rule_at : (i : ℕ) (place : Place) → i < length image → stands_at 1 i ≡ place → barred_as image i (at image i) place ≡ false
  rule_at i place l e = subst (λ (p : Place). barred_as image i (at image i) p ≡ false) e (unbarred i l)

  -- the numbers of the header

  counted : wrong_count image (states_of image) ≡ false
  unfolding stands_at
  counted = unbarred 4 (omega (arith, first_block))

  pub some_states : 0 < states_of image
  unfolding wrong_count
  some_states = let z = eqb-false (states_of image) 0 (neither (eqb (states_of image) 0) counted).0 in omega (arith, z)

  pub length_is : length image ≡ 512 * blocks_for 1 (states_of image)
  unfolding wrong_count
  length_is = equal _ _ (neither (eqb (states_of image) 0) counted).1

  pub few_upstream : upstream_fences_of image ≤ 16
  unfolding stands_at
  few_upstream = ltb-false 16 (upstream_fences_of image) (rule_at 5 Place.UpstreamFences (omega (arith, first_block)) refl)

  pub few_targets : target_fences_of image ≤ 16
  unfolding stands_at
  few_targets = ltb-false 16 (target_fences_of image) (rule_at 6 Place.TargetFences (omega (arith, first_block)) refl)

  pub block_of : (i : ℕ) → i < length image → Block image (i / 512)
  block_of i l = right_block image (i / 512) (faultless.blocks (i / 512) (omega (arith, length_is)))

  -- the bytes of a state's entry

  next_kept : (s v : ℕ) → s < states_of image → leb (next_below image s true) v ≡ false → v < states_of image
  unfolding next_below
  next_kept s v l e = leb-false (states_of image) v (rw (lt-ltb s (states_of image) l) at e)

  fence_kept : (s v : ℕ) → s < states_of image → v < 256 → barred_fence image s v ≡ false
      → (v ≡ 254) ⊎ ((v < target_fences_of image) ⊎ (v ≡ 255))
  unfolding barred_fence
  fence_kept s v l u e = go (dec_lt v (target_fences_of image)) (dec_lt v 254) (ℕ_discrete v 254)
    where
      open_e : cond (leb (target_fences_of image) v) (ltb v 254) false ≡ false
      open_e = rw (lt-ltb s (states_of image) l) at e

      go : Dec (v < target_fences_of image) → Dec (v < 254) → Dec (v ≡ 254) → (v ≡ 254) ⊎ ((v < target_fences_of image) ⊎ (v ≡ 255))
      go (yes k) c d = inr (inl k)
      go (no k) (yes c) d =
          true_false (rw (le-leb (target_fences_of image) v (omega arith), lt-ltb v 254 c) at open_e)
      go (no k) (no c) (yes d) = inl d
      go (no k) (no c) (no d) = inr (inr (omega arith))

  module _ (s : ℕ) (there : s < states_of image) where
    in_entry : (o : ℕ) → o < 24 → position 1 s o < length image
    in_entry o k = omega (arith, length_is, within_image s o (states_of image) there k)

    -- the fence byte of an access is FE, a target fence's number or FF, where it is a byte
    pub entry_fence : (a : ℕ) → a < 4 → at image (position 1 s (2 * a)) < 256
        → (at image (position 1 s (2 * a)) ≡ 254)
        ⊎ ((at image (position 1 s (2 * a)) < target_fences_of image) ⊎ (at image (position 1 s (2 * a)) ≡ 255))
    entry_fence a k small =
        fence_kept s (at image (position 1 s (2 * a))) there small (rule_at _ _ (in_entry (2 * a) (omega arith)) (fence_at s a k))

    -- the next state behind it, as what stands before it has it
    pub entry_next_rule : (a : ℕ) → a < 4
        → leb (next_below image s (not (eqb (at image (position 1 s (2 * a))) 254))) (at image (position 1 s (2 * a + 1))) ≡ false
    entry_next_rule a k =
        let before : position 1 s (2 * a + 1) - 1 ≡ position 1 s (2 * a) = omega arith in
        subst (λ (i : ℕ). leb (next_below image s (not (eqb (at image i) 254))) (at image (position 1 s (2 * a + 1))) ≡ false) before
        (rule_at _ _ (in_entry (2 * a + 1) (omega arith)) (next_at_lem s a k))

    pub entry_next : (a : ℕ) → a < 4 → (at image (position 1 s (2 * a)) ≡ 254 → ⊥) → at image (position 1 s (2 * a + 1)) < states_of image
    entry_next a k leads =
        next_kept s (at image (position 1 s (2 * a + 1))) there
        (subst (λ (t : Bool). leb (next_below image s t) (at image (position 1 s (2 * a + 1))) ≡ false)
        (ap not (ne_eqb (at image (position 1 s (2 * a))) 254 leads)) (entry_next_rule a k))

    -- the next state of an upstream fence that there is
    pub entry_onward : (f : ℕ) → f < upstream_fences_of image → at image (position 1 s (8 + f)) < states_of image
    entry_onward f k =
        let few : f < 16 = omega (arith, few_upstream) in
        next_kept s (at image (position 1 s (8 + f))) there
        (subst (λ (t : Bool). leb (next_below image s t) (at image (position 1 s (8 + f))) ≡ false) (lt-ltb f (upstream_fences_of image) k)
        (rule_at _ _ (in_entry (8 + f) (omega arith)) (onward_at s f few)))
