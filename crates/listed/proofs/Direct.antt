-- What is known of a direct run that a listing takes up: it gives at most 8,191 bytes with 4,095 fences, so it fits the buffer, and the run's
-- answer tells what it gives. Assumes nothing.
use Rattle.std.proofs.Common.{Ok, Err}
use Prim.Native.Nat.{ℕ, ◌≤◌}
use mathlib.Core.Path.{◌≡◌, refl, sym, ap, ap₂, ◌∙◌}
use mathlib.Core.Bool.{Bool, true, false, cond}
use mathlib.Core.List.{List, ◌++◌}
use native.Mathlib.Omega.{arith}
use borrow.Author.Tests.{ltb-false}
use lib.Dec.{ltb}
use lib.ListN.{length, take, drop, length-append}
use lib.Seq.{take-append_seam}
use Rattle.ground.proofs.Truths.{differ}
use Rattle.answers.specs.declared.Refusal.{Refusal}
use Rattle.answers.specs.declared.Done.{Done}
use Rattle.answers.specs.Answer.{Answer, wrote}
use Rattle.answers.specs.Given.{Given, gives, refuses, answer_of, buffer_of, Delivers}
use Rattle.answers.proofs.Laws.{buffer_fits, answer_fits}
use Rattle.rule.specs.Pairs.{Model}
use Rattle.shims.specs.declared.Models.{Models}
use Rattle.shims.specs.Models.{model_of}
use Rattle.operations.specs.Operation.{fence_bytes}
use Rattle.runs.specs.Bytes.{direct, puts}
use Rattle.runs.specs.Call.{run_given}
use Rattle.listed.specs.inner.Limits.{RunOutput}
use Rattle.runs.proofs.Longest.{is_done, longest_output, most_fences}

-- so a direct run gives bytes, at most so many, with their fences counted; or a refusal
abbrev pub Short : Given → Type 0
Short (gives bytes fences state) = (length bytes ≤ 8191) × (fence_bytes bytes ≤ 4095) × (fences ≡ fence_bytes bytes) × (state ≡ 0)
Short (refuses why) = Unit {0}

pub run_short : (m : Models) (stream : List ℕ) → Short (run_given m stream)
run_short m stream = by (ltb 4096 (length stream)) refl
  where
    up : Model
    up = model_of m.upstream

    on : Model
    on = model_of m.target

    short : length stream ≤ 4096 → (x : Given) → direct m.way up on stream ≡ x → Short x
    short l (gives bytes fences state) e =
        let d = is_done m.way up on stream e in (
          omega (arith, longest_output m.way up on stream e),
          omega (arith, most_fences m.way up on stream e),
          d.counted,
          d.no_state,
        )
    short l (refuses why) e = tt

    by : (q : Bool) → ltb 4096 (length stream) ≡ q → Short (cond q (refuses Refusal.OverLimit) (direct m.way up on stream))
    by true e = tt
    by false e = short (ltb-false 4096 (length stream) e) (direct m.way up on stream) refl

-- a run that is done has left its output in the buffer, and counted its fences
pub record Taken (x : Given) (w f : ℕ) (after : List ℕ) : Type 0 where
  pub is : x ≡ puts (take w after)
  pub fits : w ≤ length after
  pub output : RunOutput (take w after) f

-- what the run's answer tells, where the buffer holds 8,192 bytes
module _ (m : Models) (stream buffer : List ℕ) (size : length buffer ≡ 8192) {r : Answer} {after : List ℕ}
    (d : Delivers (run_given m stream) buffer r after) where
  pub run_refused : {why : Refusal} → r ≡ Err why → run_given m stream ≡ refuses why
  run_refused {why} e = by (run_given m stream) (run_short m stream) (sym e ∙ d.answer)
    where
      by : (x : Given) → Short x → Err why ≡ answer_of x (length buffer) → x ≡ refuses why
      by (gives bytes f s) h e =
          let z : Err why ≡ Ok (wrote (length bytes) f s) = e ∙ answer_fits bytes f s (length buffer) (omega (arith, h.0)) in
          differ (cc)
      by (refuses w) h e =
          let z : why ≡ w = cc in
          ap refuses (sym z)

  pub run_taken : {d : Done} → r ≡ Ok d → Taken (run_given m stream) d.written d.fences after
  run_taken {d = ran} e = by (run_given m stream) refl (run_short m stream) (sym e ∙ d.answer) d.buffer
    where
      by : (y : Given) → run_given m stream ≡ y → Short y → Ok ran ≡ answer_of y (length buffer) → after ≡ buffer_of y buffer
          → Taken (run_given m stream) ran.written ran.fences after
      by (gives bytes g z) is h e b =
          let same : Path Answer (Ok ran) (Ok (wrote (length bytes) g z)) = e ∙ answer_fits bytes g z (length buffer) (omega (arith, h.0)) in
          let n : ran.written ≡ length bytes = cc in
          let counted : ran.fences ≡ g = cc in
          let all : after ≡ bytes ++ drop (length bytes) buffer = b ∙ buffer_fits bytes buffer (omega (arith, h.0)) in
          let t : take ran.written after ≡ bytes =
          ap (take ran.written) all
          ∙ ap (λ (k : ℕ). take k (bytes ++ drop (length bytes) buffer)) n
          ∙ take-append_seam bytes (drop (length bytes) buffer) in
          record {
            is = is ∙ ap₂ (λ (k j : ℕ). gives bytes k j) h.2 h.3 ∙ ap puts (sym t);
            fits = omega (arith, n, ap length all, length-append bytes (drop (length bytes) buffer));
            output = record {
              fits = omega (arith, ap length t, h.0);
              few = omega (arith, ap fence_bytes t, h.1);
              count = counted ∙ h.2 ∙ ap fence_bytes (sym t);
            };
          }
      by (refuses why) is h e b = differ (cc)
