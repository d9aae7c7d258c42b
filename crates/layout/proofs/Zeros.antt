-- A zero behind the header is barred in no place, if there is a target fence for a fence byte to name, so that the search for the lowest barred
-- byte may pass zeros there. Assumes nothing.
use Rattle.std.proofs.Common.{Option, Some, None}
use Prim.Native.Nat.{ℕ, zero, suc, ◌+◌, ◌-◌, ◌<◌, ◌≤◌}
use mathlib.Core.Path.{◌≡◌, refl, sym, ap, ◌∙◌}
use mathlib.Core.Bool.{Bool, false, cond}
use mathlib.Core.List.{List}
use native.Mathlib.Omega.{arith}
use borrow.Author.Tests.{lt-leb, ltb-true, eqb-true}
use lib.Dec.{ltb, leb, eqb}
use lib.ListN.{length}
use Rattle.ground.specs.Lowest.{lowest}
use Rattle.ground.proofs.Lowest.{NoneFrom, lowest_start, lowest_step, lowest_takes, takes_lowest, lowest_nowhere}
use Rattle.layout.specs.inner.Zeros.{ZerosKept}
use Rattle.ground.specs.Bytes.{at}
use Rattle.places.specs.declared.Place.{Place}
use Rattle.places.specs.Layout.{stands_at}
use Rattle.barred.specs.Barred.{states_of, target_fences_of, next_below, barred_fence, barred_as, barred}
use Rattle.places.specs.inner.Standing.{Stands}
use Rattle.places.proofs.Standing.{stands, by_test}

module _ (image : List ℕ) where
  -- nothing is below 0, whatever a next state must stay below
  next_zero : (state : ℕ) (leads : Bool) → leb (next_below image state leads) 0 ≡ false
  unfolding next_below
  next_zero state leads =
      by_test (λ (n : ℕ). leb n 0 ≡ false) (ltb state (states_of image)) _ _
      (λ h.
      by_test (λ (n : ℕ). leb n 0 ≡ false) leads _ _
      (λ w. lt-leb (states_of image) 0 (omega (arith, ltb-true state (states_of image) h)))
      (λ w. refl))
      (λ h. refl)

  module _ (fence : 0 < target_fences_of image) where
    fence-zero : (state : ℕ) → barred_fence image state 0 ≡ false
    unfolding barred_fence
    fence-zero state =
        by_test (λ (b : Bool). b ≡ false) (ltb state (states_of image)) _ _ (λ h. rw (lt-leb _ _ fence)) (λ h. refl)

    module _ (i : ℕ) (past : 39 ≤ i) where
      by_place : (place : Place) → Stands i place → barred_as image i 0 place ≡ false
      by_place Place.Number s = refl
      by_place Place.Check s = refl
      by_place Place.Nothing s = refl
      by_place Place.Form s = absurd (omega arith)
      by_place Place.Way s = absurd (omega arith)
      by_place Place.States s = absurd (omega arith)
      by_place Place.UpstreamFences s = absurd (omega arith)
      by_place Place.TargetFences s = absurd (omega arith)
      by_place (Place.UpstreamName k) s = absurd (omega arith)
      by_place (Place.TargetName k) s = absurd (omega arith)
      by_place (Place.Fence state a) s = fence-zero state
      by_place (Place.Next state a) s = next_zero state _
      by_place (Place.FenceNext state f) s = next_zero state _

      pub zero_kept : at image i ≡ 0 → barred image i ≡ false
      unfolding barred
      zero_kept z = ap (λ (v : ℕ). barred_as image i v (stands_at 1 i)) z ∙ by_place (stands_at 1 i) (stands i)

-- two tests that agree have the same lowest place
same_lowest : (f g : ℕ → Bool) (k n : ℕ) → ((i : ℕ) → k ≤ i → i < k + n → f i ≡ g i) → lowest f k n ≡ lowest g k n
unfolding lowest
same_lowest f g k zero same = refl
same_lowest f g k (suc n) same =
    rw (same k (omega arith) (omega arith)) (ap (λ (x : Option ℕ). cond (g k) (Some k) x)
    (same_lowest f g (suc k) n (λ i l u. same i (omega arith) (omega (arith, u)))))

-- the bytes that are not zero and are barred, from where zeros are not barred
module _ (image : List ℕ) where
  abbrev pub passing : ℕ → Bool
  passing i = cond (eqb (at image i) 0) false (barred image i)

  pub zeros_passed : (from : ℕ) → from ≤ length image → ZerosKept image from
      → lowest passing from (length image - from) ≡ lowest (barred image) from (length image - from)
  zeros_passed from l kept = same_lowest passing (barred image) from (length image - from) (λ i p u. same i p (omega (arith, l, u)))
    where
      same : (i : ℕ) → from ≤ i → i < length image → passing i ≡ barred image i
      same i p u =
          by_test (λ (b : Bool). b ≡ barred image i) (eqb (at image i) 0) _ _ (λ z. sym (kept i p u (eqb-true _ _ z))) (λ n. refl)

  -- the lowest of all is the lowest in front or, where there is none, the lowest behind
  pub found_in_front : (k g : ℕ) → k ≤ length image → Some g ≡ lowest (barred image) 0 k → Some g ≡ lowest (barred image) 0 (length image)
  found_in_front k g l e =
      let w = lowest_takes (barred image) 0 k g (sym e) in
      sym (takes_lowest (barred image) 0 (length image) g (omega arith) (omega (arith, w.1, l)) w.2 w.3)

  pub found_behind : (k : ℕ) → k ≤ length image → None ≡ lowest (barred image) 0 k
      → lowest (barred image) k (length image - k) ≡ lowest (barred image) 0 (length image)
  found_behind k l e =
      sym (lowest_start (barred image) (length image)
      ∙ from_there 0 k (omega arith) (lowest_nowhere (barred image) 0 k (sym e)))
    where
      from_there : (i m : ℕ) → i + m ≡ k → NoneFrom (barred image) i (i + m)
          → lowest (barred image) i (length image - i) ≡ lowest (barred image) k (length image - k)
      from_there i zero e none = let q : i ≡ k = omega (arith, e) in ap (λ (j : ℕ). lowest (barred image) j (length image - j)) q
      from_there i (suc m) e none =
          lowest_step (barred image) (length image) i (omega (arith, e, l)) (none i (omega arith) (omega arith))
          ∙ from_there (i + 1) m (omega (arith, e)) (λ h p u. none h (omega (arith, p)) (omega (arith, u)))
