-- Why a call that gives a listing has done what `AcceptedInput` says, and is within the limits: all its stages have gone on, its names were read, its
-- next states are states, and its run is short. Assumes nothing.
use Rattle.std.proofs.Common.{Option, Some, Ok}
use Prim.Native.Nat.{ℕ, ◌-◌, ◌≤◌, ◌<◌}
use mathlib.Core.Path.{◌≡◌, refl, subst}
use mathlib.Core.List.{List}
use native.Mathlib.Omega.{arith}
use lib.ListN.{length, replicate, length-append, length-replicate}
use Rattle.ground.proofs.Truths.{differ}
use Rattle.answers.specs.Given.{Given, gives}
use Rattle.models.specs.declared.model.Model.{Model}
use Rattle.models.specs.Reading.{reading}
use Rattle.models.specs.Told.{held, accepting}
use Rattle.models.proofs.Words.{told, accepted_told}
use Rattle.printing.proofs.Names.{unfilled_short}
use Rattle.shims.specs.declared.Models.{Models}
use Rattle.shims.specs.Opening.{opened_by, Opens}
use Rattle.shims.proofs.Calls.{given_opened}
use Rattle.shims.proofs.Theorems.{opens}
use Rattle.shims.proofs.Fences.{few_read, few_fences}
use Rattle.operations.specs.Operation.{fence_bytes}
use Rattle.runs.specs.Bytes.{puts}
use Rattle.runs.specs.Call.{run_given}
use Rattle.mealy.specs.Runs.{Answer, refused, taken, Same}
use Rattle.mealy.specs.Arrivals.{Entry}
use Rattle.listed.specs.Parts.{Parts, rule_of, listing_of, MachineListed, crowded, overfull, made, ModelsListed, halts, runs, PartsListed}
use Rattle.listing.specs.Shape.{shape}
use Rattle.listed.specs.Printed.{next_state}
use Rattle.listing.specs.Listed.{ShapeListed, shapeless, shaped, Listed, over, within}
use Rattle.listing.specs.inner.Accepted.{AcceptedInput}
use Rattle.listed.specs.inner.Limits.{Limited}
use Rattle.listed.proofs.Direct.{Short, run_short}

module _ (input text : List ℕ) (fences state : ℕ) where
  abbrev Accepts : Type 0
  Accepts = AcceptedInput input text fences state

  by_machine : length input ≤ 32768 → (p : Parts) → shape input ≡ Some p → (m : Models)
      → Opens (Some p.way) p.upstream p.target m → {output : List ℕ} → run_given m p.stream ≡ puts output
      → {g : Given} → MachineListed m output g → g ≡ gives text fences state → Accepts
  by_machine l p s m o r (crowded h) e = differ (cc)
  by_machine l p s m o r (overfull f h) e = differ (cc)
  by_machine l p s m o {output} r (made {k = k} {row = row} f n d) e =
      record {
        within = l;
        parts = p;
        shaped = s;
        models = m;
        opens = o;
        output = output;
        ran = r;
        states = k;
        row = row;
        few_states = n;
        described = d;
        text_is = cc;
        fences_are = cc;
        no_state = cc;
      }

  by_models : length input ≤ 32768 → (p : Parts) → shape input ≡ Some p → (m : Models)
      → Opens (Some p.way) p.upstream p.target m → {g : Given} → ModelsListed m p.stream g
      → g ≡ gives text fences state → Accepts
  by_models l p s m o (halts r) e = differ (cc)
  by_models l p s m o (runs r h) e = by_machine l p s m o r h e

  by_parts : length input ≤ 32768 → (p : Parts) → shape input ≡ Some p → PartsListed p (gives text fences state) → Accepts
  by_parts l p s h =
      let read = opened_by (Some p.way) p.upstream p.target in
      let o = given_opened read (λ (m : Models). ModelsListed m p.stream) text fences state h in
      by_models l p s o.0 (opens (Some p.way) p.upstream p.target o.1) o.2 refl

  by_shape : length input ≤ 32768 → {q : Option Parts} → shape input ≡ q → {g : Given} → ShapeListed q g → g ≡ gives text fences state → Accepts
  by_shape l s shapeless e = differ (cc)
  by_shape l s (shaped {p = p} h) e = by_parts l p s (subst (PartsListed p) e h)

  pub by_length : {g : Given} → Listed input g → g ≡ gives text fences state → Accepts
  by_length (over l) e = differ (cc)
  by_length (within l h) e = by_shape l refl h e

-- the name of a model that was read
short_name : (text : List ℕ) {m : Model} → reading text ≡ accepting m → length m.name.bytes ≤ 16
short_name text e =
    let d = accepted_told (told text) e in
    let name : List ℕ = d.0.name in
    let few : length (held d.0).name.bytes ≤ 16 = omega (
      arith,
      length-append name (replicate (16 - length name) 0),
      length-replicate {A = ℕ} (16 - length name) 0,
      d.1.name.few,
    ) in
    subst (λ (x : Model). length x.name.bytes ≤ 16) d.3 few

module _ {input text : List ℕ} {fences state : ℕ} (call : AcceptedInput input text fences state) where
  next_state_lem : (i a : ℕ) → i < call.states → a < (rule_of call.models).letters → next_state (call.row i a) < 1000
  next_state_lem i a h l = by (call.row i a) (call.described.rows i a h l)
    where
      by : (x : Answer ℕ ℕ) → Entry (rule_of call.models) (Same (rule_of call.models)) call.described.streams i a x → next_state x < 1000
      by refused e = omega arith
      by (taken o j) e = omega (arith, e.2, call.described.count, call.few_states)

  pub within_limits : Short (puts call.output)
  within_limits = subst Short call.ran (run_short call.models call.parts.stream)

  pub limited : Limited (listing_of call.models call.states (rule_of call.models).letters call.row call.output
      (fence_bytes call.output))
  limited = record {
    short_upstream =
        omega (arith, unfilled_short call.models.upstream.name.bytes, short_name call.parts.upstream call.opens.upstream_read);
    short_target = omega (arith, unfilled_short call.models.target.name.bytes, short_name call.parts.target call.opens.target_read);
    few_states = call.few_states;
    few_letters = omega (arith, few_fences call.models.upstream (few_read call.parts.upstream call.opens.upstream_read));
    next_states = next_state_lem;
    short_output = within_limits.0;
    few_fences = within_limits.1;
  }
