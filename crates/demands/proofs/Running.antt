-- What the call of a direct run gives, in 01's words: its opening's refusal, the refusal of a stream over its limit, or what the direct run of the
-- two models gives. By the stages of the call. Assumes nothing.
use Rattle.std.proofs.Common.{Ok, Err}
use Prim.Native.Nat.{ℕ, ◌<◌, ◌≤◌}
use mathlib.Core.Path.{◌≡◌, refl, ap, ◌∙◌}
use mathlib.Core.Bool.{Bool, true, false, cond}
use mathlib.Core.List.{List}
use borrow.Author.Tests.{ltb-true, ltb-false, lt-ltb, le-ltb}
use lib.Dec.{ltb}
use lib.ListN.{length}
use Rattle.answers.specs.declared.Refusal.{Refusal}
use Rattle.answers.specs.Given.{Given, refuses}
use Rattle.shims.specs.declared.Models.{Models}
use Rattle.shims.specs.Opening.{Opening, way_of, opened, on_opened}
use Rattle.shims.proofs.Theorems.{opens, opens_so}
use Rattle.runs.specs.Bytes.{direct}
use Rattle.runs.specs.Call.{run_given, outcome}
use Rattle.demands.specs.Opened.{Opened, up, on, OpeningRefused}
use Rattle.demands.proofs.Opening.{opens_told, told_opens, opening_told, told_opening}
use Rattle.demands.proofs.Direct.{DirectIs, direct_is, is_direct}

pub data RunIs (number : ℕ) (upstream target stream : List ℕ) : Given → Type 0 where
  unopened : {why : Refusal} → OpeningRefused number upstream target why → RunIs number upstream target stream (refuses why)
  over : {m : Models} → Opened number upstream target m → 4096 < length stream → RunIs number upstream target stream (refuses Refusal.OverLimit)
  runs : {m : Models} {g : Given} → Opened number upstream target m → length stream ≤ 4096 → DirectIs m stream g
      → RunIs number upstream target stream g

module _ (number : ℕ) (upstream target stream : List ℕ) where
  abbrev call : Opening
  call = opened number upstream target

  pub run_is : RunIs number upstream target stream (outcome number upstream target stream)
  run_is = by call refl
    where
      directly : Models → Given
      directly m = direct m.way (up m) (on m) stream

      by_length : (m : Models) → Opened number upstream target m → (b : Bool) → ltb 4096 (length stream) ≡ b
          → RunIs number upstream target stream (cond b (refuses Refusal.OverLimit) (directly m))
      by_length m o true e = over o (ltb-true 4096 (length stream) e)
      by_length m o false e = runs o (ltb-false 4096 (length stream) e) (direct_is m stream)

      by : (o : Opening) → call ≡ o → RunIs number upstream target stream (on_opened o λ (m : Models). run_given m stream)
      by (Err why) e = unopened (opening_told number upstream target e)
      by (Ok m) e = by_length m (opens_told (opens (way_of number) upstream target e)) (ltb 4096 (length stream)) refl

  pub is_run_lem : {g : Given} → RunIs number upstream target stream g → outcome number upstream target stream ≡ g
  is_run_lem (unopened o) = ap (λ (x : Opening). on_opened x λ (m : Models). run_given m stream) (told_opening o)
  is_run_lem (over {m = m} o l) =
      let z : run_given m stream ≡ refuses Refusal.OverLimit = simp (lt-ltb 4096 (length stream) l) in
      ap (λ (x : Opening). on_opened x λ (m : Models). run_given m stream) (opens_so (told_opens o)) ∙ z
  is_run_lem (runs {m = m} {g = g} o l d) =
      let z : run_given m stream ≡ g = simp (le-ltb 4096 (length stream) l) (is_direct m stream d) in
      ap (λ (x : Opening). on_opened x λ (m : Models). run_given m stream) (opens_so (told_opens o)) ∙ z
