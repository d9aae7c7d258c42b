-- Of an image that is accepted: its machine's image is the image itself. Assumes nothing.
use Prim.Native.Nat.{ℕ, ◌+◌, ◌-◌, ◌*◌, ◌/◌, ◌%◌, ◌<◌, ◌≤◌}
use mathlib.Core.Path.{◌≡◌, refl, sym, ap, ap₂, ◌∙◌}
use mathlib.Core.Bool.{Bool, false, not, cond}
use mathlib.Core.Logic.{◌⊎◌, inl, inr}
use mathlib.Core.List.{List}
use native.Mathlib.Decide.{ℕ_discrete, dec_lt}
use native.Mathlib.Omega.{arith}
use borrow.Author.Tests.{lt-ltb, le-ltb, eq-eqb, ne_eqb, ltb-false, leb-false}
use lib.Dec.{leb, ltb, eqb}
use lib.ListN.{length}
use Rattle.ground.specs.Bytes.{at}
use Rattle.operations.specs.Alphabet.{stride}
use Rattle.places.specs.declared.Place.{Place}
use Rattle.blocks.specs.Checksum.{two_bytes}
use Rattle.places.specs.Layout.{stands_at, position}
use Rattle.blocks.specs.Wrong.{check_of}
use Rattle.barred.specs.Barred.{barred_fence, next_below, states_of, upstream_fences_of, target_fences_of, barred_as}
use Rattle.layout.specs.inner.Faultless.{Faultless}
use Rattle.places.specs.inner.Standing.{Stands}
use Rattle.layout.proofs.Faultless.{first_block, unbarred, rule_at, some_states, length_is, few_upstream, few_targets, block_of}
use Rattle.layout.proofs.Faultless.{entry_fence, entry_next_rule, entry_next, entry_onward}
use Rattle.layout.proofs.Failing.{equal}
use Rattle.places.proofs.Standing.{stands, upstream_at, target_at}
use Rattle.blocks.proofs.Sums.{check_same}
use Rattle.image.specs.Image.{word, half, used, value_as, value_at, check_for, byte_at, image_of, header_of, entry_word, rows_of, AccessWord, Canonical}
use Rattle.image.proofs.Fronts.{at_listed, is_listed}
use Rattle.image.proofs.NameFields.{good_field}
use Rattle.image.proofs.Sealing.{byte_content, byte_high, byte_low}

module _ (image : List ℕ) (bytes : (i : ℕ) → at image i < 256) (faultless : Faultless image) where
  -- what is read

  word_is : (s a : ℕ) → s < states_of image → a < stride → word (rows_of image) s a ≡ entry_word image s a
  unfolding rows_of
  word_is s a l k =
      let d : (s * stride + a) / stride ≡ s = omega arith in
      let m : (s * stride + a) % stride ≡ a = omega arith in
      at_listed (states_of image * stride) _ (s * stride + a) (omega arith) ∙ ap₂ (entry_word image) d m

  access_is : (s a : ℕ) → a < 4 → entry_word image s a ≡ two_bytes (at image (position 1 s (2 * a))) (at image (position 1 s (2 * a + 1)))
  unfolding entry_word
  access_is s a l = rw (lt-ltb _ _ l)

  fence_is : (s f : ℕ) → f < upstream_fences_of image → entry_word image s (4 + f) ≡ two_bytes 255 (at image (position 1 s (8 + f)))
  unfolding entry_word
  fence_is s f l =
      let e : 4 + f - 4 ≡ f = omega arith in
      let p : 4 + (4 + f) ≡ 8 + f = omega arith in
      rw (le-ltb (4 + f) 4 (omega arith), e, lt-ltb _ _ l, p)

  absent_is : (s f : ℕ) → upstream_fences_of image ≤ f → entry_word image s (4 + f) ≡ 0
  unfolding entry_word
  absent_is s f l =
      let e : 4 + f - 4 ≡ f = omega arith in
      rw (le-ltb (4 + f) 4 (omega arith), e, le-ltb _ _ l)

  -- what may stand in an entry

  fence-zero : (s v : ℕ) → states_of image ≤ s → barred_fence image s v ≡ false → v ≡ 0
  unfolding barred_fence
  fence-zero s v l e = let w = leb-false 1 v (rw (le-ltb s (states_of image) l) at e) in omega arith

  next_unused : (s v : ℕ) (t : Bool) → states_of image ≤ s → leb (next_below image s t) v ≡ false → v ≡ 0
  unfolding next_below
  next_unused s v t l e = let w = leb-false 1 v (rw (le-ltb s (states_of image) l) at e) in omega arith

  next_nowhere : (s v : ℕ) (t : Bool) → s < states_of image → t ≡ false → leb (next_below image s t) v ≡ false → v ≡ 0
  unfolding next_below
  next_nowhere s v t l h e = let w = leb-false 1 v (rw (lt-ltb s (states_of image) l, h) at e) in omega arith

  -- the byte that is written is the byte that was read

  number_same : (i : ℕ) → i < length image → i % 512 < 2 → half i (i / 512) ≡ at image i
  unfolding half
  number_same i l u = go (ℕ_discrete (i % 2) 0)
    where
      go : Dec (i % 2 ≡ 0) → cond (eqb (i % 2) 0) (i / 512 / 256) (i / 512 % 256) ≡ at image i
      go (yes e) =
          let k : 512 * (i / 512) ≡ i = omega arith in
          rw (eq-eqb (i % 2) 0 e)
          (omega (arith, (block_of image faultless i l).number, bytes (512 * (i / 512) + 1), ap (at image) k))
      go (no e) =
          let k : 512 * (i / 512) + 1 ≡ i = omega arith in
          rw (ne_eqb (i % 2) 0 e)
          (omega (arith, (block_of image faultless i l).number, bytes (512 * (i / 512) + 1), ap (at image) k))

  access_word : (q a : ℕ) → q < states_of image → a < 4
      → word (rows_of image) q a ≡ 256 * at image (position 1 q (2 * a)) + at image (position 1 q (2 * a + 1))
  access_word q a l k = word_is q a l (omega arith) ∙ access_is q a k

  -- of a state that there is, and of one that there is not
  used_same : (q v i : ℕ) → (q < states_of image → v ≡ at image i) → (states_of image ≤ q → at image i ≡ 0)
      → cond (ltb q (states_of image)) v 0 ≡ at image i
  used_same q v i there none = go (dec_lt q (states_of image))
    where
      go : Dec (q < states_of image) → cond (ltb q (states_of image)) v 0 ≡ at image i
      go (yes l) = rw (lt-ltb q (states_of image) l) (there l)
      go (no l) = let m : states_of image ≤ q = omega arith in rw (le-ltb q (states_of image) m) (sym (none m))

  fence_same : (q a i : ℕ) → i ≡ position 1 q (2 * a) → a < 4 → barred_fence image q (at image i) ≡ false
      → cond (ltb q (states_of image)) (word (rows_of image) q a / 256) 0 ≡ at image i
  fence_same q a i e k h =
      used_same q _ i (λ l. omega (arith, access_word q a l k, bytes (position 1 q (2 * a + 1)), ap (at image) e))
      (λ m. fence-zero q (at image i) m h)

  next_same : (q a i : ℕ) (t : Bool) → i ≡ position 1 q (2 * a + 1) → a < 4 → leb (next_below image q t) (at image i) ≡ false
      → cond (ltb q (states_of image)) (word (rows_of image) q a % 256) 0 ≡ at image i
  next_same q a i t e k h =
      used_same q _ i (λ l. omega (arith, access_word q a l k, bytes (position 1 q (2 * a + 1)), ap (at image) e))
      (λ m. next_unused q (at image i) t m h)

  onward_same : (q f i : ℕ) → i ≡ position 1 q (8 + f) → f < 16
      → leb (next_below image q (ltb f (upstream_fences_of image))) (at image i) ≡ false
      → cond (ltb q (states_of image)) (word (rows_of image) q (4 + f) % 256) 0 ≡ at image i
  onward_same q f i e k h =
      used_same q _ i (λ l. there l (dec_lt f (upstream_fences_of image))) (λ m. next_unused q (at image i) _ m h)
    where
      there : q < states_of image → Dec (f < upstream_fences_of image) → word (rows_of image) q (4 + f) % 256 ≡ at image i
      there l (yes m) =
          omega (arith, word_is q (4 + f) l (omega arith) ∙ fence_is q f m, bytes (position 1 q (8 + f)), ap (at image) e)
      there l (no m) =
          let n : upstream_fences_of image ≤ f = omega arith in
          omega
          (arith, word_is q (4 + f) l (omega arith) ∙ absent_is q f n, next_nowhere q (at image i) _ l (le-ltb f (upstream_fences_of image) n) h)

  same_as : (i : ℕ) → i < length image → i % 512 < 510 → (place : Place) → Stands i place → barred_as image i (at image i) place ≡ false
      → value_as (header_of image) (rows_of image) i place ≡ at image i
  unfolding header_of used
  same_as i l u Place.Number s b = number_same i l s
  same_as i l u Place.Form s b = sym (equal _ _ b)
  same_as i l u Place.Way s b = ap (at image) (sym s)
  same_as i l u Place.States s b = ap (at image) (sym s)
  same_as i l u Place.UpstreamFences s b = ap (at image) (sym s)
  same_as i l u Place.TargetFences s b = ap (at image) (sym s)
  same_as i l u (Place.UpstreamName k) s b = at_listed 16 _ k s.1 ∙ ap (at image) (sym s.0)
  same_as i l u (Place.TargetName k) s b = at_listed 16 _ k s.1 ∙ ap (at image) (sym s.0)
  same_as i l u (Place.Fence q a) s b = fence_same q a i s.0 s.1 b
  same_as i l u (Place.Next q a) s b = next_same q a i _ s.0 s.1 b
  same_as i l u (Place.FenceNext q f) s b = onward_same q f i s.0 s.1 b
  same_as i l u Place.Nothing s b = let w = leb-false 1 (at image i) b in omega arith
  same_as i l u Place.Check s b = absurd (omega arith)

  value_same : (i : ℕ) → i < length image → i % 512 < 510 → value_at (header_of image) (rows_of image) i ≡ at image i
  unfolding value_at
  value_same i l u = same_as i l u (stands_at 1 i) (stands i) (unbarred image faultless i l)

  check_same_as : (i : ℕ) → i < length image → check_for (header_of image) (rows_of image) (i / 512) ≡ check_of image (i / 512)
  unfolding check_of check_for
  check_same_as i l =
      check_same _ _ (λ p k. value_same (512 * (i / 512) + p) (omega (arith, (block_of image faultless i l).whole)) (omega arith))

  byte_same : (i : ℕ) → i < length image → byte_at (header_of image) (rows_of image) i ≡ at image i
  byte_same i l = go (dec_lt (i % 512) 510) (ℕ_discrete (i % 512) 510)
    where
      go : Dec (i % 512 < 510) → Dec (i % 512 ≡ 510) → byte_at (header_of image) (rows_of image) i ≡ at image i
      go (yes u) d = byte_content (header_of image) (rows_of image) i u ∙ value_same i l u
      go (no u) (yes d) =
          let e : 512 * (i / 512) + 510 ≡ i = omega arith in
          ap (byte_at (header_of image) (rows_of image)) (sym e) ∙ byte_high (header_of image) (rows_of image) (i / 512)
          ∙ omega (arith, check_same_as i l, (block_of image faultless i l).check, bytes (512 * (i / 512) + 510 + 1), ap (at image) e)
      go (no u) (no d) =
          let e : 512 * (i / 512) + 511 ≡ i = omega arith in
          let f : 512 * (i / 512) + 510 + 1 ≡ i = omega arith in
          ap (byte_at (header_of image) (rows_of image)) (sym e) ∙ byte_low (header_of image) (rows_of image) (i / 512)
          ∙ omega (arith, check_same_as i l, (block_of image faultless i l).check, bytes (512 * (i / 512) + 510 + 1), ap (at image) f)

  -- what was read writes the same bytes
  pub image_same : image_of (header_of image) (rows_of image) ≡ image
  unfolding image_of header_of
  image_same = sym (is_listed _ _ image (length_is image faultless) (λ i l. sym (byte_same i (omega (arith, length_is image faultless)))))

  -- what was read is a machine of the layout

  access_kept : (s a : ℕ) → s < states_of image → a < 4 → AccessWord (header_of image) (word (rows_of image) s a)
  unfolding header_of
  access_kept s a l k = go (ℕ_discrete x 254) (entry_fence image faultless s l a k (bytes _))
    where
      x : ℕ
      x = at image (position 1 s (2 * a))

      y : ℕ
      y = at image (position 1 s (2 * a + 1))

      w : word (rows_of image) s a ≡ 256 * x + y
      w = access_word s a l k

      high : word (rows_of image) s a / 256 ≡ x
      high = omega (arith, w, bytes (position 1 s (2 * a + 1)))

      low : word (rows_of image) s a % 256 ≡ y
      low = omega (arith, w, bytes (position 1 s (2 * a + 1)))

      below : (x ≡ 254 → ⊥) → word (rows_of image) s a % 256 < states_of image
      below e = omega (arith, low, entry_next image faultless s l a k e)

      go : Dec (x ≡ 254) → (x ≡ 254) ⊎ ((x < target_fences_of image) ⊎ (x ≡ 255))
          → ((word (rows_of image) s a / 256 ≡ 254) × (word (rows_of image) s a % 256 ≡ 0))
          ⊎ (((word (rows_of image) s a / 256 < target_fences_of image) ⊎ (word (rows_of image) s a / 256 ≡ 255))
          × (word (rows_of image) s a % 256 < states_of image))
      go (yes e) c = inl (high ∙ e, low ∙ next_nowhere s y _ l (ap not (eq-eqb x 254 e)) (entry_next_rule image faultless s l a k))
      go (no e) (inl c) = absurd (e c)
      go (no e) (inr (inl c)) = inr (inl (omega (arith, high)), below e)
      go (no e) (inr (inr c)) = inr (inr (high ∙ c), below e)

  fences_kept : (s f : ℕ) → s < states_of image → f < upstream_fences_of image
      → (word (rows_of image) s (4 + f) / 256 ≡ 255) × (word (rows_of image) s (4 + f) % 256 < states_of image)
  fences_kept s f l k =
      let w = word_is s (4 + f) l (omega (arith, few_upstream image faultless)) ∙ fence_is s f k in (
        omega (arith, w, bytes (position 1 s (8 + f))),
        omega (arith, w, bytes (position 1 s (8 + f)), entry_onward image faultless s l f k),
      )

  pub canonical_read : Canonical (header_of image) (rows_of image)
  unfolding header_of stands_at
  canonical_read =
      let f = first_block image faultless in
      record {
        way = ltb-false 1 (at image 3) (rule_at image faultless 3 Place.Way (omega arith) refl);
        some = some_states image faultless;
        states = omega (arith, bytes 4);
        ups = few_upstream image faultless;
        targets = few_targets image faultless;
        upstream = good_field image 7 (λ k l. rule_at image faultless (7 + k) (Place.UpstreamName k) (omega arith) (upstream_at k l));
        target = good_field image 23 (λ k l. rule_at image faultless (23 + k) (Place.TargetName k) (omega arith) (target_at k l));
        accesses = access_kept;
        fences = λ s g l k. fences_kept s g l k;
        absent = λ s g l k m. word_is s (4 + g) l (omega arith) ∙ absent_is s g k;
      }
