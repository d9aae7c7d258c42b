-- The direct run byte by byte is the direct run by the rule: each byte does what its operation does, and a fault ends both. Assumes nothing.
use Rattle.std.proofs.Common.{Option, None, Some}
use Prim.Native.Nat.{ℕ, suc, ◌+◌}
use mathlib.Core.Path.{◌≡◌, refl, sym, ap, ap₂, ◌∙◌}
use mathlib.Core.List.{List, [], ◌∷◌, ◌++◌, map, map-append}
use native.Mathlib.Omega.{arith}
use lib.ListN.{length}
use Rattle.answers.specs.declared.Refusal.{Refusal}
use Rattle.answers.specs.Given.{Given, refuses}
use Rattle.operations.specs.declared.Kind.{Kind}
use Rattle.operations.specs.declared.Operation.{Operation}
use Rattle.operations.specs.Operation.{access_byte, fence_byte, byte_of}
use Rattle.rule.specs.declared.situation.Situation.{Situation}
use Rattle.rule.specs.declared.way.Way.{Way}
use Rattle.rule.specs.declared.way.Step.{Step}
use Rattle.rule.specs.Sides.{upstream_of, target_of}
use Rattle.rule.specs.Stream.{Stream, access, fence}
use Rattle.rule.specs.Pairs.{Model, fence_table}
use Rattle.rule.specs.Rule.{Ran, done, refused, behind}
use Rattle.rule.specs.Situation.{asks, fresh, stepped, resumed, steps}
use Rattle.rule.proofs.Theorems.{steps_are_the_rule}
use Rattle.shims.specs.declared.Sides.{Sides}
use Rattle.runs.specs.Bytes.{Judged, good, bad, judged, operations, operations_from, fault, fault_from, puts, outcome_of, direct}
use Rattle.runs.specs.inner.Moves.{moved_by, moved_as, ahead, moves_on, moves, for_sides}
use Rattle.runs.proofs.Ahead.{ahead_none, ahead_puts}
use Rattle.runs.proofs.Judging.{good_byte}

-- what was put out before a run comes before its bytes, and its refusals are one further on
outcome_behind : (at : ℕ) (p : Stream) (x : Ran) (f : Option Refusal) → outcome_of at (behind p x) f ≡ ahead (map byte_of p) (outcome_of (suc at) x f)
outcome_behind at p (refused i) f =
    let e : at + suc i ≡ suc at + i = omega arith in
    ap (λ (n : ℕ). refuses (Refusal.NoFenceWillDo n)) e
outcome_behind at p (done out) None = ap puts (map-append byte_of p out) ∙ sym (ahead_puts (map byte_of p) (map byte_of out))
outcome_behind at p (done out) (Some why) = refl

module _ (way : Way) (up target : Model) where
  by_step : (at b : ℕ) (k : Kind) (f : Option Refusal) (ops : Stream) (more : Situation → Given) → access_byte k ≡ b
      → ((s : Situation) → outcome_of (suc at) (steps way up target s ops) f ≡ more s) → (x : Step)
      → outcome_of at (resumed k (λ (next : Situation). steps way up target next ops) x) f ≡ moves_on b more (moved_by at x)
  by_step at b k f ops more e h (Step.Plain next) =
      outcome_behind at (access k) (steps way up target next ops) f ∙ ap₂ (λ (c : ℕ) (x : Given). ahead (c ∷ []) x) e (h next)
  by_step at b k f ops more e h (Step.Fenced g next) =
      outcome_behind at (fence g ++ access k) (steps way up target next ops) f
      ∙ ap₂ (λ (c : ℕ) (x : Given). ahead (fence_byte g ∷ c ∷ []) x) e (h next)
  by_step at b k f ops more e h Step.Refused =
      let z : at + 0 ≡ at = omega arith in
      ap (λ (m : ℕ). refuses (Refusal.NoFenceWillDo m)) z

  by_judged : (s : Situation) (at b : ℕ) (f : Option Refusal) (ops : Stream) (more : Situation → Given)
      → ((s : Situation) → outcome_of (suc at) (steps way up target s ops) f ≡ more s) → (j : Judged) → judged (length up.fences) at b ≡ j
      → outcome_of at (steps way up target s (operations_from j ops)) (fault_from j f) ≡ moves_on b more (moved_as way up target s at j)
  unfolding steps
  by_judged s at b f ops more h (bad why) e = refl
  by_judged s at b f ops more h (good (Operation.Fence g)) e =
      outcome_behind at [] (steps way up target (asks (fence_table up g) s) ops) f ∙ ap (ahead []) (h (asks (fence_table up g) s)) ∙ ahead_none _
  by_judged s at b f ops more h (good (Operation.Access k)) e =
      by_step at b k f ops more (good_byte (length up.fences) at b (Operation.Access k) e) h (stepped way up.ppo target s k)

  from_here : (bytes : List ℕ) (s : Situation) (at : ℕ)
      → outcome_of at (steps way up target s (operations (length up.fences) at bytes)) (fault (length up.fences) at bytes)
      ≡ moves way up target s at bytes
  unfolding moves operations fault steps
  from_here [] s at = refl
  from_here (b ∷ bytes) s at =
      by_judged s at b (fault (length up.fences) (suc at) bytes) (operations (length up.fences) (suc at) bytes)
      (λ (next : Situation). moves way up target next (suc at) bytes) (λ next. from_here bytes next (suc at)) (judged (length up.fences) at b) refl

  -- the run by moves from the fresh situation is the direct run
  pub direct_moves : (bytes : List ℕ) → direct way up target bytes ≡ moves way up target fresh 0 bytes
  unfolding direct
  direct_moves bytes =
      ap (λ (x : Ran). outcome_of 0 x (fault (length up.fences) 0 bytes))
      (steps_are_the_rule way up target (operations (length up.fences) 0 bytes))
      ∙ from_here bytes fresh 0

-- the same of two sides
pub direct_between : (s : Sides) (bytes : List ℕ) → for_sides direct s bytes ≡ for_sides moves s fresh 0 bytes
direct_between s bytes = direct_moves s.shim.way (upstream_of s.shim s.fences.now) (target_of s.shim s.targets.now) bytes
