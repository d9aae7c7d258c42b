-- Of a machine of the layout: its image is accepted, and reads as the same machine. Assumes nothing.
use Rattle.std.proofs.Common.{Ok}
use Prim.Native.Nat.{ℕ, ◌+◌, ◌-◌, ◌*◌, ◌/◌, ◌%◌, ◌<◌, ◌≤◌}
use mathlib.Core.Path.{◌≡◌, refl, sym, ap, subst, ◌∙◌}
use mathlib.Core.Bool.{Bool, true, false, not, cond}
use mathlib.Core.Logic.{◌⊎◌, inl, inr}
use mathlib.Core.List.{List}
use native.Mathlib.Decide.{dec_lt}
use native.Mathlib.Omega.{arith}
use borrow.Author.Tests.{lt-ltb, le-ltb, lt-leb, eq-eqb, ne_eqb}
use lib.Dec.{leb, ltb, eqb}
use lib.ListN.{length, take}
use Rattle.ground.specs.Bytes.{at}
use Rattle.answers.specs.Answer.{Verdict}
use Rattle.operations.specs.Alphabet.{stride}
use Rattle.places.specs.declared.Place.{Place}
use Rattle.image.specs.declared.machine.Header.{Header}
use Rattle.blocks.specs.Checksum.{two_bytes}
use Rattle.places.specs.Layout.{limit, blocks_for, stands_at, position}
use Rattle.blocks.specs.Wrong.{wrong, check_of}
use Rattle.barred.specs.Barred.{wrong_count, barred_fence, next_below, states_of, upstream_fences_of, target_fences_of}
use Rattle.layout.specs.Verdict.{block_count}
use Rattle.barred.specs.Barred.{barred_as, barred}
use Rattle.layout.specs.Verdict.{verdict_of}
use Rattle.image.specs.Image.{listed, word, half, used, value_as, value_at, check_for, byte_at, size_of, image_of, header_of, entry_word, rows_of}
use Rattle.image.specs.Image.{AccessWord, Canonical}
use Rattle.ground.proofs.Lowest.{none_nowhere}
use Rattle.image.proofs.Fronts.{length-listed, at_listed, is_listed, front_whole}
use Rattle.blocks.proofs.Sums.{check_same}
use Rattle.places.specs.inner.Standing.{Stands}
use Rattle.places.proofs.Standing.{stands, number_at, fence_at, next_at_lem, onward_at, upstream_at, target_at, within_image, entry_inside}
use Rattle.image.proofs.Sealing.{byte_content, byte_high, byte_low}
use Rattle.image.proofs.NameFields.{field_good}

never : (t : Bool) → cond t false false ≡ false
never true = refl
never false = refl

module _ (h : Header) (rows : List ℕ) (can : Canonical h rows) where
  pub length_image : length (image_of h rows) ≡ size_of h
  unfolding image_of
  length_image = length-listed _ _

  at_image : (i : ℕ) → i < size_of h → at (image_of h rows) i ≡ byte_at h rows i
  unfolding image_of
  at_image i l = at_listed _ _ i l

  value_image : (i : ℕ) → i < size_of h → i % 512 < 510 → at (image_of h rows) i ≡ value_at h rows i
  value_image i l u = at_image i l ∙ byte_content h rows i u

  placed : (i : ℕ) (place : Place) → i < size_of h → i % 512 < 510 → stands_at 1 i ≡ place → at (image_of h rows) i ≡ value_as h rows i place
  unfolding value_at
  placed i place l u e = value_image i l u ∙ ap (value_as h rows i) e

  way_image : at (image_of h rows) 3 ≡ h.way
  unfolding stands_at
  way_image = placed 3 Place.Way (omega arith) (omega arith) refl

  pub states_image : states_of (image_of h rows) ≡ h.states
  unfolding stands_at
  states_image = placed 4 Place.States (omega arith) (omega arith) refl

  pub ups_image : upstream_fences_of (image_of h rows) ≡ h.ups
  unfolding stands_at
  ups_image = placed 5 Place.UpstreamFences (omega arith) (omega arith) refl

  targets_image : target_fences_of (image_of h rows) ≡ h.targets
  unfolding stands_at
  targets_image = placed 6 Place.TargetFences (omega arith) (omega arith) refl

  upstream_image : (k : ℕ) → k < 16 → at (image_of h rows) (7 + k) ≡ at h.upstream k
  upstream_image k l = placed (7 + k) (Place.UpstreamName k) (omega arith) (omega arith) (upstream_at k l)

  target_image : (k : ℕ) → k < 16 → at (image_of h rows) (23 + k) ≡ at h.target k
  target_image k l = placed (23 + k) (Place.TargetName k) (omega arith) (omega arith) (target_at k l)

  -- no block is wrong

  number_high : (b : ℕ) → 512 * b + 512 ≤ size_of h → at (image_of h rows) (512 * b) ≡ b / 256
  unfolding half
  number_high b l =
      let d : 512 * b / 512 ≡ b = omega arith in
      placed (512 * b) Place.Number (omega arith) (omega arith) (number_at (512 * b) (omega arith))
      ∙ rw (eq-eqb (512 * b % 2) 0 (omega arith), d)

  number_low : (b : ℕ) → 512 * b + 512 ≤ size_of h → at (image_of h rows) (512 * b + 1) ≡ b % 256
  unfolding half
  number_low b l =
      let d : (512 * b + 1) / 512 ≡ b = omega arith in
      placed (512 * b + 1) Place.Number (omega arith) (omega arith) (number_at (512 * b + 1) (omega arith))
      ∙ rw (ne_eqb ((512 * b + 1) % 2) 0 (λ e. omega arith), d)

  check_image : (b : ℕ) → 512 * b + 512 ≤ size_of h → check_of (image_of h rows) b ≡ check_for h rows b
  unfolding check_of check_for
  check_image b l = check_same _ _ (λ p k. value_image (512 * b + p) (omega arith) (omega arith))

  check_stored : (b : ℕ) → 512 * b + 512 ≤ size_of h
      → two_bytes (at (image_of h rows) (512 * b + 510)) (at (image_of h rows) (512 * b + 510 + 1)) ≡ check_for h rows b
  check_stored b l =
      let s : 512 * b + 510 + 1 ≡ 512 * b + 511 = omega arith in
      let high = at_image (512 * b + 510) (omega arith) ∙ byte_high h rows b in
      let low = ap (at (image_of h rows)) s ∙ at_image (512 * b + 511) (omega arith) ∙ byte_low h rows b in
      omega (arith, high, low)

  no_wrong : (b : ℕ) → b < block_count (image_of h rows) → wrong (image_of h rows) b ≡ false
  unfolding wrong
  no_wrong b l =
      let u : 512 * b + 512 ≤ size_of h = omega (arith, length_image) in
      rw (
        le-ltb (length (image_of h rows)) (512 * b + 512) (omega (arith, length_image)),
        eq-eqb (two_bytes (at (image_of h rows) (512 * b)) (at (image_of h rows) (512 * b + 1))) b
            (omega (arith, number_high b u, number_low b u)),
        eq-eqb (two_bytes (at (image_of h rows) (512 * b + 510)) (at (image_of h rows) (512 * b + 510 + 1))) (check_of (image_of h rows) b)
            (check_stored b u ∙ sym (check_image b u)),
      )

  -- no byte is barred

  used_image : (s v : ℕ) → s < h.states → used h s v ≡ v
  unfolding used
  used_image s v l = rw (lt-ltb s h.states l)

  unused_image : (s v : ℕ) → h.states ≤ s → used h s v ≡ 0
  unfolding used
  unused_image s v l = rw (le-ltb s h.states l)

  fence_good : (s v : ℕ) → s < h.states → (v ≡ 254) ⊎ ((v < h.targets) ⊎ (v ≡ 255)) → barred_fence (image_of h rows) s v ≡ false
  unfolding barred_fence
  fence_good s v l c = rw (states_image, targets_image, lt-ltb s h.states l) (go c)
    where
      go : (v ≡ 254) ⊎ ((v < h.targets) ⊎ (v ≡ 255)) → cond (leb h.targets v) (ltb v 254) false ≡ false
      go (inl e) = rw (le-ltb v 254 (omega arith)) (never (leb h.targets v))
      go (inr (inl k)) = rw (lt-leb h.targets v k)
      go (inr (inr e)) = rw (le-ltb v 254 (omega arith)) (never (leb h.targets v))

  fence_clear : (s v : ℕ) → h.states ≤ s → v ≡ 0 → barred_fence (image_of h rows) s v ≡ false
  unfolding barred_fence
  fence_clear s v l e = rw (states_image, le-ltb s h.states l, e)

  next_good : (s v : ℕ) (t : Bool) → s < h.states → t ≡ true → v < h.states → leb (next_below (image_of h rows) s t) v ≡ false
  unfolding next_below
  next_good s v t l e k = rw (states_image, lt-ltb s h.states l, e) (lt-leb h.states v k)

  next_refused : (s v : ℕ) (t : Bool) → s < h.states → t ≡ false → v ≡ 0 → leb (next_below (image_of h rows) s t) v ≡ false
  unfolding next_below
  next_refused s v t l e z = rw (states_image, lt-ltb s h.states l, e, z)

  next_clear : (s v : ℕ) (t : Bool) → h.states ≤ s → v ≡ 0 → leb (next_below (image_of h rows) s t) v ≡ false
  unfolding next_below
  next_clear s v t l z = rw (states_image, le-ltb s h.states l, z)

  -- the fence byte of a word
  fence_of_lem : (s a : ℕ) → s < h.states → a < 4 → (word rows s a / 256 ≡ 254) ⊎ ((word rows s a / 256 < h.targets) ⊎ (word rows s a / 256 ≡ 255))
  fence_of_lem s a l k = go (can.accesses s a l k)
    where
      go : AccessWord h (word rows s a) → (word rows s a / 256 ≡ 254) ⊎ ((word rows s a / 256 < h.targets) ⊎ (word rows s a / 256 ≡ 255))
      go (inl c) = inl c.0
      go (inr c) = inr c.0

  good_fence : (i s a : ℕ) → i ≡ position 1 s (2 * a) → a < 4 → at (image_of h rows) i ≡ used h s (word rows s a / 256)
      → barred_fence (image_of h rows) s (at (image_of h rows) i) ≡ false
  good_fence i s a e k v = go (dec_lt s h.states)
    where
      go : Dec (s < h.states) → barred_fence (image_of h rows) s (at (image_of h rows) i) ≡ false
      go (yes l) = rw (v ∙ used_image s _ l) (fence_good s _ l (fence_of_lem s a l k))
      go (no l) = let m : h.states ≤ s = omega arith in fence_clear s _ m (v ∙ unused_image s _ m)

  good_next : (i s a : ℕ) → i ≡ position 1 s (2 * a + 1) → a < 4 → i < size_of h → at (image_of h rows) i ≡ used h s (word rows s a % 256)
      → leb (next_below (image_of h rows) s (not (eqb (at (image_of h rows) (i - 1)) 254))) (at (image_of h rows) i) ≡ false
  good_next i s a e k u v = go (dec_lt s h.states)
    where
      before : s < h.states → at (image_of h rows) (i - 1) ≡ word rows s a / 256
      before l =
          let p : i - 1 ≡ position 1 s (2 * a) = omega arith in
          ap (at (image_of h rows)) p
          ∙ placed (position 1 s (2 * a)) (Place.Fence s a) (omega arith) (entry_inside s (2 * a) (omega arith)) (fence_at s a k)
          ∙ used_image s _ l

      by : (l : s < h.states) → AccessWord h (word rows s a)
          → leb (next_below (image_of h rows) s (not (eqb (at (image_of h rows) (i - 1)) 254))) (at (image_of h rows) i) ≡ false
      by l (inl c) =
          next_refused s _ _ l (ap not (eq-eqb (at (image_of h rows) (i - 1)) 254 (before l ∙ c.0))) (v ∙ used_image s _ l ∙ c.1)
      by l (inr c) =
          next_good s _ _ l (ap not (ne_eqb (at (image_of h rows) (i - 1)) 254 (λ z. other c.0 (sym (before l) ∙ z))))
          (omega (arith, v ∙ used_image s _ l, c.1))
        where
          other : (word rows s a / 256 < h.targets) ⊎ (word rows s a / 256 ≡ 255) → word rows s a / 256 ≡ 254 → ⊥
          other (inl w) z = omega (arith, can.targets)
          other (inr w) z = omega arith

      go : Dec (s < h.states) → leb (next_below (image_of h rows) s (not (eqb (at (image_of h rows) (i - 1)) 254))) (at (image_of h rows) i) ≡ false
      go (yes l) = by l (can.accesses s a l k)
      go (no l) = let m : h.states ≤ s = omega arith in next_clear s _ _ m (v ∙ unused_image s _ m)

  good_onward : (i s f : ℕ) → f < 16 → at (image_of h rows) i ≡ used h s (word rows s (4 + f) % 256)
      → leb (next_below (image_of h rows) s (ltb f (upstream_fences_of (image_of h rows)))) (at (image_of h rows) i) ≡ false
  good_onward i s f k v = rw ups_image (go (dec_lt s h.states) (dec_lt f h.ups))
    where
      go : Dec (s < h.states) → Dec (f < h.ups) → leb (next_below (image_of h rows) s (ltb f h.ups)) (at (image_of h rows) i) ≡ false
      go (yes l) (yes m) =
          next_good s _ _ l (lt-ltb f h.ups m) (omega (arith, v ∙ used_image s _ l, (can.fences s f l m).1))
      go (yes l) (no m) =
          let n : h.ups ≤ f = omega arith in
          next_refused s _ _ l (le-ltb f h.ups n) (omega (arith, v ∙ used_image s _ l, can.absent s f l n k))
      go (no l) m = let n : h.states ≤ s = omega arith in next_clear s _ _ n (v ∙ unused_image s _ n)

  count_good : (v : ℕ) → v ≡ h.states → wrong_count (image_of h rows) v ≡ false
  unfolding wrong_count
  count_good v e =
      rw
      (e, ne_eqb h.states 0 (λ z. omega (arith, can.some)), eq-eqb (length (image_of h rows)) (512 * blocks_for 1 h.states) length_image)

  inside : (i s o : ℕ) → i ≡ position 1 s o → o < 24 → i % 512 < 510
  inside i s o e l = subst (λ (j : ℕ). j % 512 < 510) (sym e) (entry_inside s o l)

  good_as : (i : ℕ) → i < size_of h → (place : Place) → Stands i place → stands_at 1 i ≡ place
      → barred_as (image_of h rows) i (at (image_of h rows) i) place ≡ false
  good_as i l Place.Number s e = refl
  good_as i l Place.Form s e = rw (placed i Place.Form l (omega arith) e)
  good_as i l Place.Way s e = le-ltb 1 (at (image_of h rows) i) (omega (arith, placed i Place.Way l (omega arith) e, can.way))
  good_as i l Place.States s e = count_good _ (placed i Place.States l (omega arith) e)
  good_as i l Place.UpstreamFences s e = le-ltb 16 (at (image_of h rows) i) (omega (arith, placed i Place.UpstreamFences l (omega arith) e, can.ups))
  good_as i l Place.TargetFences s e = le-ltb 16 (at (image_of h rows) i) (omega (arith, placed i Place.TargetFences l (omega arith) e, can.targets))
  good_as i l (Place.UpstreamName k) s e = field_good (image_of h rows) 7 h.upstream can.upstream upstream_image k s.1
  good_as i l (Place.TargetName k) s e = field_good (image_of h rows) 23 h.target can.target target_image k s.1
  good_as i l (Place.Fence q a) s e = good_fence i q a s.0 s.1 (placed i (Place.Fence q a) l (inside i q (2 * a) s.0 (omega arith)) e)
  good_as i l (Place.Next q a) s e = good_next i q a s.0 s.1 l (placed i (Place.Next q a) l (inside i q (2 * a + 1) s.0 (omega arith)) e)
  good_as i l (Place.FenceNext q f) s e = good_onward i q f s.1 (placed i (Place.FenceNext q f) l (inside i q (8 + f) s.0 (omega arith)) e)
  good_as i l Place.Nothing s e = lt-leb 1 (at (image_of h rows) i) (omega (arith, placed i Place.Nothing l s.1 e))
  good_as i l Place.Check s e = refl

  no_barred : (i : ℕ) → i < length (image_of h rows) → barred (image_of h rows) i ≡ false
  unfolding barred
  no_barred i l = good_as i (omega (arith, length_image)) (stands_at 1 i) (stands i) refl

  -- the image of a machine of the layout is accepted
  pub canonical_accepted : verdict_of (image_of h rows) ≡ Ok tt
  unfolding verdict_of
  canonical_accepted =
      rw (
        le-ltb limit (length (image_of h rows)) (omega (arith, length_image, can.states)),
        none_nowhere (wrong (image_of h rows)) 0 (block_count (image_of h rows)) (λ b k l. no_wrong b (omega arith)),
        none_nowhere (barred (image_of h rows)) 0 (length (image_of h rows)) (λ i k l. no_barred i (omega arith)),
      )

  -- and reads as the same machine
  pub same_header : header_of (image_of h rows) ≡ h
  unfolding header_of
  same_header = λ i. record {
    way = way_image i;
    states = states_image i;
    ups = ups_image i;
    targets = targets_image i;
    upstream = sym (is_listed 16 _ h.upstream can.upstream.size (λ k l. sym (upstream_image k l))) i;
    target = sym (is_listed 16 _ h.target can.target.size (λ k l. sym (target_image k l))) i;
  }

  -- what stands in a state's entry
  pub fence_image : (s a : ℕ) → s < h.states → a < 4 → at (image_of h rows) (position 1 s (2 * a)) ≡ word rows s a / 256
  fence_image s a l m =
      placed _ (Place.Fence s a) (within_image s (2 * a) h.states l (omega arith)) (entry_inside s (2 * a) (omega arith)) (fence_at s a m)
      ∙ used_image s _ l

  pub next_image : (s a : ℕ) → s < h.states → a < 4 → at (image_of h rows) (position 1 s (2 * a + 1)) ≡ word rows s a % 256
  next_image s a l m =
      placed _ (Place.Next s a) (within_image s (2 * a + 1) h.states l (omega arith)) (entry_inside s (2 * a + 1) (omega arith)) (next_at_lem s a m)
      ∙ used_image s _ l

  pub onward_image : (s f : ℕ) → s < h.states → f < 16 → at (image_of h rows) (position 1 s (8 + f)) ≡ word rows s (4 + f) % 256
  onward_image s f l m =
      placed _ (Place.FenceNext s f) (within_image s (8 + f) h.states l (omega arith)) (entry_inside s (8 + f) (omega arith)) (onward_at s f m)
      ∙ used_image s _ l

  same_word : (s a : ℕ) → s < h.states → a < stride → entry_word (image_of h rows) s a ≡ word rows s a
  unfolding entry_word
  same_word s a l k = go (dec_lt a 4) (dec_lt (a - 4) h.ups)
    where
      letter : 4 ≤ a → 4 + (a - 4) ≡ a
      letter m = omega arith

      onward : 4 ≤ a → at (image_of h rows) (position 1 s (4 + a)) ≡ word rows s a % 256
      onward m =
          let p : 4 + a ≡ 8 + (a - 4) = omega arith in
          ap (λ (o : ℕ). at (image_of h rows) (position 1 s o)) p
          ∙ onward_image s (a - 4) l (omega arith)
          ∙ ap (λ (b : ℕ). word rows s b % 256) (letter m)

      go : Dec (a < 4) → Dec (a - 4 < h.ups)
          → cond (ltb a 4) (two_bytes (at (image_of h rows) (position 1 s (2 * a))) (at (image_of h rows) (position 1 s (2 * a + 1))))
          (cond (ltb (a - 4) (upstream_fences_of (image_of h rows))) (two_bytes 255 (at (image_of h rows) (position 1 s (4 + a)))) 0)
          ≡ word rows s a
      go (yes m) d = rw (lt-ltb a 4 m) (omega (arith, fence_image s a l m, next_image s a l m))
      go (no m) (yes d) =
          let n : 4 ≤ a = omega arith in
          rw (le-ltb a 4 n, ups_image, lt-ltb (a - 4) h.ups d)
          (omega (arith, onward n, sym (ap (λ (b : ℕ). word rows s b / 256) (letter n)) ∙ (can.fences s (a - 4) l d).0))
      go (no m) (no d) =
          let n : 4 ≤ a = omega arith in
          rw (le-ltb a 4 n, ups_image, le-ltb (a - 4) h.ups (omega arith))
          (sym (sym (ap (word rows s) (letter n)) ∙ can.absent s (a - 4) l (omega arith) (omega arith)))

  pub same_rows : rows_of (image_of h rows) ≡ listed (h.states * stride) (at rows)
  unfolding rows_of
  same_rows =
      is_listed _ _ _ (length-listed _ _ ∙ ap (λ (n : ℕ). n * stride) states_image)
      (λ j l.
      let e : j / stride * stride + j % stride ≡ j = omega arith in
      at_listed _ _ j (omega (arith, states_image)) ∙ same_word (j / stride) (j % stride) (omega arith) (omega arith) ∙ ap (at rows) e)

  pub same_rows_taken : h.states * stride ≤ length rows → rows_of (image_of h rows) ≡ take (h.states * stride) rows
  same_rows_taken l = same_rows ∙ sym (front_whole (record { fits = l; front = λ i k. refl }))
