-- A run over any image that is accepted, handmade too: no byte of its entries is barred, so each next state is a state, and what a fenced access
-- puts out before it is a fence byte. Assumes nothing.
use Rattle.std.proofs.Common.{Option, Some, None, Ok, Err}
use Prim.Native.Nat.{ℕ, suc, ◌+◌, ◌*◌, ◌<◌, ◌≤◌}
use mathlib.Core.Path.{◌≡◌, refl, ap, ap₂, subst}
use mathlib.Core.Logic.{◌⊎◌, inl, inr}
use mathlib.Core.List.{List, [], ◌∷◌}
use native.Mathlib.Decide.{ℕ_discrete, dec_lt}
use native.Mathlib.Omega.{arith}
use borrow.Author.Tests.{lt-ltb, le-ltb, eq-eqb, ne_eqb}
use lib.ListN.{length, length-append}
use Rattle.ground.specs.Bytes.{at}
use Rattle.answers.specs.Answer.{Verdict}
use Rattle.operations.specs.declared.Kind.{Kind}
use Rattle.operations.specs.declared.Operation.{Operation}
use Rattle.operations.specs.Operation.{byte_is, fence_byte, is_fence, fence_bytes}
use Rattle.operations.specs.Alphabet.{letter_of}
use Rattle.operations.proofs.Bytes.{fence_read}
use Rattle.operations.proofs.Letters.{letter_few}
use Rattle.operations.proofs.Counting.{fences-append}
use Rattle.places.specs.Layout.{position}
use Rattle.barred.specs.Barred.{states_of, upstream_fences_of, target_fences_of}
use Rattle.layout.specs.Verdict.{verdict_of}
use Rattle.layout.specs.inner.Faultless.{Faultless}
use Rattle.layout.proofs.Faultless.{accepted_faultless, few_targets, entry_fence, entry_next, entry_onward}
use Rattle.image_runs.specs.Run.{Step, access_step, step_as, step_at, puts, inserts, leads, Walked, ended, stopped, walked_on, resumed, walked}
use Rattle.image_runs.proofs.Runs.{puts_few}

-- a run that ends has put out at most so many bytes
abbrev Few : ℕ → Walked → Type 0
Few n (ended out fences t) = length out ≤ n
Few n (stopped why i) = Unit {0}

few_on : (put : List ℕ) (i n m : ℕ) (r : Walked) → length put + n ≤ m → Few n r → Few m (walked_on 1 put i r)
few_on put i n m (ended out fences t) l h = omega (arith, length-append put out)
few_on put i n m (stopped why j) l h = tt

few : (image : List ℕ) (s : ℕ) (stream : List ℕ) → Few (2 * length stream) (walked image s stream)
unfolding walked
few image s [] = omega arith
few image s (b ∷ rest) = by (step_at image s b) (λ t. few image t rest)
  where
    by : (step : Step) → ((t : ℕ) → Few (2 * length rest) (walked image t rest))
        → Few (2 * suc (length rest)) (resumed b (λ (t : ℕ). walked image t rest) step)
    by (Err why) h = tt
    by (Ok m) h =
        few_on (puts b m) (inserts m) (2 * length rest) (2 * suc (length rest)) (walked image (leads m) rest)
        (omega (arith, puts_few b m)) (h (leads m))

-- For readers: a run over an image puts out at most two bytes for each that it gets.
pub longest_walk : (image : List ℕ) (s : ℕ) (stream : List ℕ) {out : List ℕ} {fences t : ℕ} → walked image s stream ≡ ended out fences t
    → length out ≤ 2 * length stream
longest_walk image s stream e = subst (Few (2 * length stream)) e (few image s stream)

-- a step leads to a state, and what it inserts is what it puts out as fences
abbrev Sound : List ℕ → ℕ → Step → Type 0
Sound image b (Ok m) = (leads m < states_of image) × (fence_bytes (puts b m) ≡ inserts m)
Sound image b (Err why) = Unit {0}

-- the same of a run that ends
abbrev Whole : List ℕ → Walked → Type 0
Whole image (ended out fences t) = (t < states_of image) × (fences ≡ fence_bytes out)
Whole image (stopped why i) = Unit {0}

whole_on : (image put : List ℕ) (n : ℕ) → fence_bytes put ≡ n → (r : Walked) → Whole image r → Whole image (walked_on 1 put n r)
whole_on image put n e (ended out m t) h = (h.0, omega (arith, e, h.1, fences-append put out))
whole_on image put n e (stopped why i) h = tt

-- an access is no fence, and the byte of a fence number is one
access_counts : (b : ℕ) (k : Kind) → byte_is b ≡ Some (Operation.Access k) → fence_bytes (b ∷ []) ≡ 0
unfolding fence_bytes
access_counts b k e = ap (λ (x : Option Operation). is_fence x + 0) e

fence_counts : (g b : ℕ) (k : Kind) → g < 16 → byte_is b ≡ Some (Operation.Access k) → fence_bytes (fence_byte g ∷ b ∷ []) ≡ 1
unfolding fence_bytes
fence_counts g b k l e = ap₂ (λ (x y : Option Operation). is_fence x + (is_fence y + 0)) (fence_read g l) e

module _ (image : List ℕ) (bytes : (i : ℕ) → at image i < 256) (faultless : Faultless image) where
  access_sound : (b : ℕ) (k : Kind) → byte_is b ≡ Some (Operation.Access k) → (fence next : ℕ)
      → (fence ≡ 254) ⊎ ((fence < target_fences_of image) ⊎ (fence ≡ 255)) → ((fence ≡ 254 → ⊥) → next < states_of image)
      → Sound image b (access_step fence next)
  access_sound b k e fence next allowed leads = by (ℕ_discrete fence 254) (ℕ_discrete fence 255) allowed
    where
      by : Dec (fence ≡ 254) → Dec (fence ≡ 255) → (fence ≡ 254) ⊎ ((fence < target_fences_of image) ⊎ (fence ≡ 255))
          → Sound image b (access_step fence next)
      by (yes z) w c = rw (eq-eqb fence 254 z) tt
      by (no z) (yes w) c = rw (ne_eqb fence 254 z, eq-eqb fence 255 w) (leads z, access_counts b k e)
      by (no z) (no w) (inl c) = absurd (z c)
      by (no z) (no w) (inr (inl c)) =
          rw (ne_eqb fence 254 z, ne_eqb fence 255 w)
          (leads z, fence_counts fence b k (omega (arith, few_targets image faultless)) e)
      by (no z) (no w) (inr (inr c)) = absurd (w c)

  step_sound : (s b : ℕ) → s < states_of image → Sound image b (step_at image s b)
  unfolding step_at fence_bytes
  step_sound s b l = by (byte_is b) refl
    where
      passed : (f : ℕ) → Dec (f < upstream_fences_of image) → Sound image b (step_as image s (Some (Operation.Fence f)))
      passed f (yes k) = rw (lt-ltb f (upstream_fences_of image) k) (entry_onward image faultless s l f k, refl)
      passed f (no k) = rw (le-ltb f (upstream_fences_of image) (omega arith)) tt

      by : (x : Option Operation) → byte_is b ≡ x → Sound image b (step_as image s x)
      by None e = tt
      by (Some (Operation.Access k)) e =
          access_sound b k e (at image (position 1 s (2 * letter_of k))) (at image (position 1 s (2 * letter_of k + 1)))
          (entry_fence image faultless s l (letter_of k) (letter_few k) (bytes _))
          (entry_next image faultless s l (letter_of k) (letter_few k))
      by (Some (Operation.Fence f)) e = passed f (dec_lt f (upstream_fences_of image))

  whole : (stream : List ℕ) (s : ℕ) → s < states_of image → Whole image (walked image s stream)
  unfolding walked fence_bytes
  whole [] s l = (l, refl)
  whole (b ∷ rest) s l = by (step_at image s b) (step_sound s b l) (whole rest)
    where
      by : (step : Step) → Sound image b step → ((t : ℕ) → t < states_of image → Whole image (walked image t rest))
          → Whole image (resumed b (λ (t : ℕ). walked image t rest) step)
      by (Err why) g h = tt
      by (Ok m) g h = whole_on image (puts b m) (inserts m) g.1 (walked image (leads m) rest) (h (leads m) g.0)

-- For readers: over every accepted image, from any of its states, a run that ends ends in a state of the image, and the fences that it tells are the
-- fence bytes that it put out.
module _ (image : List ℕ) (bytes : (i : ℕ) → at image i < 256) (accepted : verdict_of image ≡ Ok tt) {s : ℕ} (start : s < states_of image)
    (stream : List ℕ) {out : List ℕ} {fences t : ℕ} (ran : walked image s stream ≡ ended out fences t) where
  found : (t < states_of image) × (fences ≡ fence_bytes out)
  found = subst (Whole image) ran (whole image bytes (accepted_faultless image accepted) stream s start)

  pub ends_below : t < states_of image
  ends_below = found.0

  pub counts_fence_bytes : fences ≡ fence_bytes out
  counts_fence_bytes = found.1
