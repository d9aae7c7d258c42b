-- Blocks are filled, and then sealed with their checks: what is put at each byte is what the image of the machine has there. Assumes nothing.
use Prim.Native.Nat.{ℕ, ◌+◌, ◌*◌, ◌/◌, ◌%◌, ◌<◌, ◌≤◌}
use mathlib.Core.Path.{◌≡◌, sym, ap, subst, ◌∙◌}
use mathlib.Core.List.{List}
use native.Mathlib.Nat.{add_assoc, add-zero}
use native.Mathlib.Omega.{arith}
use borrow.Author.Tests.{lt-ltb, le-ltb, eq-eqb, ne_eqb}
use lib.ListN.{length, set, take, length-set}
use Rattle.image.specs.declared.machine.Header.{Header}
use Rattle.places.specs.Layout.{blocks_for}
use Rattle.blocks.specs.Wrong.{check_of}
use Rattle.image.specs.Image.{half, value_at, check_for, byte_at, image_of, size_of}
use Rattle.image.specs.inner.Filling.{Front, sealed}
use Rattle.blocks.proofs.Sums.{check_same}
use Rattle.image.proofs.Fronts.{front_more, front_whole}

module _ (h : Header) (rows : List ℕ) where
  pub byte_content : (i : ℕ) → i % 512 < 510 → byte_at h rows i ≡ value_at h rows i
  unfolding byte_at
  byte_content i l = rw (lt-ltb _ _ l)

  pub byte_high : (b : ℕ) → byte_at h rows (512 * b + 510) ≡ check_for h rows b / 256
  unfolding byte_at half
  byte_high b =
      let e : (512 * b + 510) / 512 ≡ b = omega arith in
      rw (le-ltb ((512 * b + 510) % 512) 510 (omega arith), eq-eqb ((512 * b + 510) % 2) 0 (omega arith), e)

  pub byte_low : (b : ℕ) → byte_at h rows (512 * b + 511) ≡ check_for h rows b % 256
  unfolding byte_at half
  byte_low b =
      let e : (512 * b + 511) / 512 ≡ b = omega arith in
      rw (le-ltb ((512 * b + 511) % 512) 510 (omega arith), ne_eqb ((512 * b + 511) % 2) 0 (λ w. omega arith), e)

  pub contents_start : (b : ℕ) {image : List ℕ} → Front (byte_at h rows) (512 * b) image → Front (byte_at h rows) (512 * b + 0) image
  contents_start b r = rw add-zero r

  pub contents_next : (b p v : ℕ) {image : List ℕ} → Front (byte_at h rows) (512 * b + p) image → p < 510 → 512 * b + p < length image
      → v ≡ value_at h rows (512 * b + p) → Front (byte_at h rows) (512 * b + (p + 1)) (set image (512 * b + p) v)
  contents_next b p v {image} r l k e =
      rw (← add_assoc (512 * b) p 1) (front_more r v k (e ∙ sym (byte_content (512 * b + p) (omega arith))))

  pub check_of_lem : (b : ℕ) {image : List ℕ} → Front (byte_at h rows) (512 * b + 510) image → check_of image b ≡ check_for h rows b
  unfolding check_of check_for
  check_of_lem b r = check_same _ _ (λ p l. r.front (512 * b + p) (omega arith) ∙ byte_content (512 * b + p) (omega arith))

  pub sealed_front : (b : ℕ) {image : List ℕ} → Front (byte_at h rows) (512 * b + 510) image → 512 * b + 512 ≤ length image
      → Front (byte_at h rows) (512 * b + 512) (sealed image b)
  unfolding sealed
  sealed_front b {image} r l =
      let c = check_of_lem b r in
      let one = front_more r (check_of image b / 256) (omega arith) (ap (λ (x : ℕ). x / 256) c ∙ sym (byte_high b)) in
      let s : 512 * b + 510 + 1 ≡ 512 * b + 511 = omega arith in
      let t : 512 * b + 511 + 1 ≡ 512 * b + 512 = omega arith in
      subst (λ (n : ℕ). Front (byte_at h rows) n (sealed image b)) t
      (front_more (subst (λ (n : ℕ). Front (byte_at h rows) n (set image (512 * b + 510) (check_of image b / 256))) s one) (check_of image b % 256)
      (simp length-set (omega arith)) (ap (λ (x : ℕ). x % 256) c ∙ sym (byte_low b)))

  pub image_whole : {image : List ℕ} → Front (byte_at h rows) (size_of h) image → take (size_of h) image ≡ image_of h rows
  unfolding image_of
  image_whole r = front_whole r

  pub image_taken : (n : ℕ) {image : List ℕ} → Front (byte_at h rows) (size_of h) image → n ≡ blocks_for 1 h.states
      → take (512 * n) image ≡ image_of h rows
  image_taken n {image} r e = ap (λ (x : ℕ). take (512 * x) image) e ∙ image_whole r
