-- What a direct run has done that was accepted: its call has gone through all its stages, so what it wrote is the rule's run of the whole stream, and
-- the rest is said by the theorems of `rule`. Assumes nothing.
use Rattle.std.proofs.Common.{Ok}
use Prim.Native.Nat.{ℕ, ◌<◌, ◌≤◌}
use mathlib.Core.Path.{◌≡◌, refl, sym, ap, subst, ◌∙◌}
use mathlib.Core.Bool.{true}
use mathlib.Core.Logic.{◌⊎◌, inl, inr}
use mathlib.Core.List.{List, [], ◌∷◌, map}
use native.Mathlib.Omega.{arith}
use lib.ListN.{length, take, length-map}
use Rattle.ground.proofs.Truths.{differ}
use Rattle.answers.specs.Answer.{Answer, wrote}
use Rattle.answers.specs.Given.{Given, gives, Delivers}
use Rattle.tables.specs.declared.table.Row.{Row}
use Rattle.tables.specs.declared.table.Column.{Column}
use Rattle.tables.specs.Table.{cell}
use Rattle.operations.specs.declared.Operation.{Operation}
use Rattle.operations.specs.Operation.{byte_of, fence_bytes}
use Rattle.operations.proofs.Bytes.{access_read, fence_read}
use Rattle.rule.specs.declared.way.Way.{Way}
use Rattle.rule.specs.Stream.{Stream, kind_at, HasFence, between}
use Rattle.rule.specs.Pairs.{Model, fence_table, is_row, is_column, asked, offered}
use Rattle.rule.specs.Rule.{done, run, every_fence}
use Rattle.rule.proofs.Theorems.{is_a_placing, every_pair_kept, by_default_or_one_fence, fence_exactly_when, nothing_at_the_end, fewest_fences}
use Rattle.shims.specs.declared.Models.{Models}
use Rattle.shims.proofs.Fences.{few_read, few_fences}
use Rattle.runs.specs.Call.{outcome}
use Rattle.runs.proofs.Counting.{fence_bytes_are_fences}
use Rattle.demands.specs.Streams.{StreamIn, KeptByOne, Right}
use Rattle.demands.specs.Opened.{Opened, up, on}
use Rattle.demands.specs.DirectRuns.{RunDone, Accepts}
use Rattle.demands.proofs.Delivered.{Gave, done_gave}
use Rattle.demands.proofs.Direct.{puts_out, at_4, at_5, at_6}
use Rattle.demands.proofs.Opening.{told_opens}
use Rattle.demands.proofs.Reading.{reads_on}
use Rattle.demands.proofs.Running.{RunIs, unopened, over, runs, run_is}

-- a model that was read has at most sixteen fences
pub few_targets : {number : ℕ} {upstream target : List ℕ} {m : Models} → Opened number upstream target m → length (on m).fences ≤ 16
few_targets {target = target} {m = m} o = few_fences m.target (few_read target (told_opens o).target_read)

pub few_upstreams : {number : ℕ} {upstream target : List ℕ} {m : Models} → Opened number upstream target m → length (up m).fences ≤ 16
few_upstreams {upstream = upstream} {m = m} o = few_fences m.upstream (few_read upstream (told_opens o).upstream_read)

-- a stream whose fences have bytes is read from its bytes
pub reads_written : (n : ℕ) → n ≤ 16 → (s : Stream) → every_fence (λ (f : ℕ). f < n) s → StreamIn (map byte_of s) s
reads_written n few [] h = refl
reads_written n few (Operation.Access k ∷ s) h =
    reads_on (byte_of (Operation.Access k)) (map byte_of s) (Operation.Access k) s (access_read k) (reads_written n few s h)
reads_written n few (Operation.Fence f ∷ s) h =
    reads_on (byte_of (Operation.Fence f)) (map byte_of s) (Operation.Fence f) s (fence_read f (omega (arith, h.0))) (reads_written n few s h.1)

-- a pair that is kept is kept by the default or by one fence
pub kept_by_one : (upstream target : Model) (input output : Stream) (i j : ℕ)
    → ((r : Row) (c : Column) → is_row (kind_at input i) r ≡ true → is_column (kind_at input j) c ≡ true
    → asked upstream input i j r c ≤ offered target output i j r c) → KeptByOne upstream target input output i j
kept_by_one upstream target input output i j kept r c p q = by (by_default_or_one_fence target output i j r c)
  where
    by : (offered target output i j r c ≡ cell target.ppo r c)
        ⊎ ((g : ℕ) × HasFence g (between i j output) × (offered target output i j r c ≡ cell (fence_table target g) r c))
        → (asked upstream input i j r c ≤ cell target.ppo r c)
        ⊎ ((g : ℕ) × HasFence g (between i j output) × (asked upstream input i j r c ≤ cell (fence_table target g) r c))
    by (inl e) = inl (omega (arith, kept r c p q, e))
    by (inr (g, h, e)) = inr (g, h, omega (arith, kept r c p q, e))

-- what the rule gives is right
pub is_right : (way : Way) (upstream target : Model) (input output : Stream) → run way upstream target input ≡ done output
    → Right way upstream target input output
is_right way upstream target input output accepted =
    record {
      accepted = accepted;
      placing = is_a_placing way upstream target input output accepted;
      kept = λ i j l k. kept_by_one upstream target input output i j (every_pair_kept way upstream target input output accepted i j l k);
      fenced = fence_exactly_when way upstream target input output accepted;
      nothing_behind = nothing_at_the_end way upstream target input output accepted;
      fewest = λ full other p k.
          fewest_fences upstream target input output (sym (ap (λ (w : Way). run w upstream target input) full) ∙ accepted) other p k;
    }

-- bytes that a call gives are those of a run that the rule accepts
pub record DirectOutput (number : ℕ) (upstream target stream bytes : List ℕ) (fences state : ℕ) : Type 0 where
  pub models : Models
  pub opened : Opened number upstream target models
  pub within : length stream ≤ 4096
  pub output : Stream
  pub accepts : Accepts models stream output
  pub written : bytes ≡ map byte_of output
  pub counted : fences ≡ fence_bytes bytes
  pub no_state : state ≡ 0

pub gives_ran : (number : ℕ) (upstream target stream bytes : List ℕ) (fences state : ℕ)
    → outcome number upstream target stream ≡ gives bytes fences state → DirectOutput number upstream target stream bytes fences state
gives_ran number upstream target stream bytes fences state e = by (run_is number upstream target stream) e
  where
    by : {g : Given} → RunIs number upstream target stream g → g ≡ gives bytes fences state
        → DirectOutput number upstream target stream bytes fences state
    by (unopened o) z = differ (cc)
    by (over o l) z = differ (cc)
    by (runs o l (at_4 place s)) z = differ (cc)
    by (runs o l (at_5 place s)) z = differ (cc)
    by (runs o l (at_6 place s)) z = differ (cc)
    by (runs {m = m} o l (puts_out {output = output} a)) z =
        let front : bytes ≡ map byte_of output = cc in
        let count : fences ≡ fence_bytes (map byte_of output) = cc in
        let none : state ≡ 0 = cc in
        record {
          models = m;
          opened = o;
          within = l;
          output = output;
          accepts = a;
          written = front;
          counted = count ∙ ap fence_bytes (sym front);
          no_state = none;
        }

module _ {number : ℕ} {upstream target stream out : List ℕ} {written fences state : ℕ} {after : List ℕ}
    (call : Delivers (outcome number upstream target stream) out (Ok (wrote written fences state)) after) where
  pub done_right : RunDone number upstream target stream out written fences state after
  done_right =
      let gave : Gave (outcome number upstream target stream) out written fences state after = done_gave call in
      let ran = gives_ran number upstream target stream (take written after) fences state gave.is in
      let m = ran.models in
      let input = ran.accepts.input in
      let output = ran.output in
      let right = is_right m.way (up m) (on m) input output ran.accepts.accepted in
      let own = right.placing.its in
      let few = few_targets ran.opened in
      record {
        models = m;
        opened = ran.opened;
        within = ran.within;
        input = input;
        input_read = ran.accepts.input_read;
        input_own = ran.accepts.input_own;
        output = output;
        output_read = subst (λ (l : List ℕ). StreamIn l output) (sym ran.written) (reads_written (length (on m).fences) few output own);
        right = right;
        size = sym gave.size ∙ ap length ran.written ∙ length-map output byte_of;
        counted = ran.counted ∙ ap fence_bytes ran.written ∙ fence_bytes_are_fences (length (on m).fences) few output own;
        no_state = ran.no_state;
        fits = gave.fits;
        rest_kept = gave.rest;
      }
