-- The steps of a run over an image, by the tests of their definitions. Assumes nothing.
use Rattle.std.proofs.Common.{Option, Some, Ok, Err}
use Prim.Native.Nat.{ℕ, ◌+◌, ◌*◌, ◌<◌, ◌≤◌}
use mathlib.Core.Path.{◌≡◌, sym, ap, ap₂, ◌∙◌}
use mathlib.Core.List.{List}
use native.Mathlib.Omega.{arith}
use borrow.Author.Tests.{lt-ltb, le-ltb, eq-eqb, ne_eqb}
use Rattle.ground.specs.Bytes.{at}
use Rattle.operations.specs.Alphabet.{letter_of}
use Rattle.operations.specs.declared.Kind.{Kind}
use Rattle.operations.specs.declared.Operation.{Operation}
use Rattle.operations.specs.Operation.{byte_is, fence_byte}
use Rattle.image_runs.specs.declared.Stop.{Stop}
use Rattle.image_runs.specs.declared.Move.{Move}
use Rattle.image_runs.specs.Run.{Step, access_step, step_as, step_at}
use Rattle.places.specs.Layout.{entry_start, position}
use Rattle.barred.specs.Barred.{upstream_fences_of}
use Rattle.image_runs.specs.inner.Walking.{Small}

module _ (fence next : ℕ) (small : next < 256) where
  pub step_refused : fence ≡ 254 → (Err Stop.NoFenceWillDo ≡ access_step fence next) × Unit {0}
  step_refused e = (rw (eq-eqb fence 254 e), tt)

  pub step_plain : (fence ≡ 254 → ⊥) → fence ≡ 255 → (Ok (Move.Plain next) ≡ access_step fence next) × (next < 256)
  step_plain z e = (rw (ne_eqb fence 254 z, eq-eqb fence 255 e), small)

  pub step_fenced : (b : ℕ) → (fence ≡ 254 → ⊥) → (fence ≡ 255 → ⊥) → b ≡ fence_byte fence
      → (Ok (Move.Fenced b next) ≡ access_step fence next) × (next < 256)
  step_fenced b z w e = (
    rw (ne_eqb fence 254 z, ne_eqb fence 255 w) (ap (λ (x : ℕ). Ok (Move.Fenced x next)) e),
    small,
  )

-- the entry of an access
pub step_access : (image : List ℕ) (s : ℕ) (k : Kind) (a p f n : ℕ) (r : Step) → a ≡ letter_of k → p ≡ entry_start 1 s
    → f ≡ at image (p + 2 * a) → n ≡ at image (p + 2 * a + 1) → (r ≡ access_step f n) × Small r
    → (r ≡ step_as image s (Some (Operation.Access k))) × Small r
step_access image s k a p f n r c e h l w =
    let o : p + 2 * a ≡ position 1 s (2 * letter_of k) = omega arith in
    let q : p + 2 * a + 1 ≡ position 1 s (2 * letter_of k + 1) = omega arith in (
      w.0 ∙ ap₂ access_step (h ∙ ap (at image) o) (l ∙ ap (at image) q),
      w.1,
    )

module _ (image : List ℕ) (s f u : ℕ) (ups : u ≡ upstream_fences_of image) where
  pub step_no_fence : u ≤ f → (Err Stop.NoSuchFence ≡ step_as image s (Some (Operation.Fence f))) × Unit {0}
  step_no_fence l = (rw (← ups, le-ltb f u l), tt)

  pub step_passed : (p n : ℕ) → f < u → p ≡ entry_start 1 s → n ≡ at image (p + (8 + f)) → n < 256
      → (Ok (Move.Passed n) ≡ step_as image s (Some (Operation.Fence f))) × (n < 256)
  step_passed p n l e h k = (
    rw (← ups, lt-ltb f u l) (ap (λ (x : ℕ). Ok (Move.Passed x)) (h ∙ ap (λ (x : ℕ). at image (x + (8 + f))) e)),
    k,
  )

-- by what the byte is
pub step_byte : (image : List ℕ) (s b : ℕ) (read is : Option Operation) (r : Step) → read ≡ byte_is b → read ≡ is → (r ≡ step_as image s is) × Small r
    → (r ≡ step_at image s b) × Small r
unfolding step_at
step_byte image s b read is r e h w = (w.0 ∙ ap (step_as image s) (sym h ∙ e), w.1)

pub step_operation : (image : List ℕ) (s : ℕ) (o is : Operation) (r : Step) → o ≡ is → (r ≡ step_as image s (Some is)) × Small r
    → (r ≡ step_as image s (Some o)) × Small r
step_operation image s o is r h w = (w.0 ∙ ap (λ (x : Operation). step_as image s (Some x)) (sym h), w.1)
