-- `value_at` meets its contract: what is asked of its parts is as the place stands, and of a used word it takes a half. Assumes nothing.
use Rattle.std.proofs.Common.{ℕ, ◌/◌, ◌%◌, ◌≡◌, Bool, true, false, cond, ltb, refl, ap, ◌∙◌, arith}
use Rattle.places.proofs.Standing.{stands_as}
use Rattle.image.specs.declared.machine.Header.{Header}
use Rattle.image.specs.Image.{used, value_as, value_at}
use Rattle.image.proofs.writer.value_at.Goals as goal

-- a half of what is used of a word is what is used of its half
module _ (h : Header) (s v : ℕ) where
  used_high : used h s v / 256 ≡ used h s (v / 256)
  unfolding used
  used_high = by (ltb s h.states)
    where
      by : (q : Bool) → cond q v 0 / 256 ≡ cond q (v / 256) 0
      by true = refl
      by false = refl

  used_low : used h s v % 256 ≡ used h s (v % 256)
  unfolding used
  used_low = by (ltb s h.states)
    where
      by : (q : Bool) → cond q v 0 % 256 ≡ cond q (v % 256) 0
      by true = refl
      by false = refl

pub bounds-h-k : goal.bounds-h-k
bounds-h-k c = let s = stands_as _ _ c.in-UpstreamName.ensures in omega arith

pub bounds-h-k-in-TargetName : goal.bounds-h-k-in-TargetName
bounds-h-k-in-TargetName c = let s = stands_as _ _ c.in-TargetName.ensures in omega arith

pub used-requires : goal.used-requires
used-requires c = let s = stands_as _ _ c.in-Fence.ensures in (omega arith, omega arith)

pub used-requires-in-Next : goal.used-requires-in-Next
used-requires-in-Next c = let s = stands_as _ _ c.in-Next.ensures in (omega arith, omega arith)

pub overflow_add-f : goal.overflow_add-f
overflow_add-f c = let s = stands_as _ _ c.in-FenceNext.ensures in omega arith

pub used-requires-in-FenceNext : goal.used-requires-in-FenceNext
used-requires-in-FenceNext c = let s = stands_as _ _ c.in-FenceNext.ensures in (omega arith, omega arith)

pub returns-in-Fence : goal.returns-in-Fence
unfolding value_at
returns-in-Fence c =
    ap (λ (n : ℕ). n / 256) c.used.ensures ∙ used_high _ _ _ ∙ ap (value_as c.args.h.now c.args.rows.now c.args.i) c.in-Fence.ensures

pub returns-in-Next : goal.returns-in-Next
unfolding value_at
returns-in-Next c =
    ap (λ (n : ℕ). n % 256) c.used-in-Next.ensures ∙ used_low _ _ _ ∙ ap (value_as c.args.h.now c.args.rows.now c.args.i) c.in-Next.ensures

pub returns-in-FenceNext : goal.returns-in-FenceNext
unfolding value_at
returns-in-FenceNext c =
    ap (λ (n : ℕ). n % 256) c.used-in-FenceNext.ensures
    ∙ used_low _ _ _
    ∙ ap (value_as c.args.h.now c.args.rows.now c.args.i) c.in-FenceNext.ensures
