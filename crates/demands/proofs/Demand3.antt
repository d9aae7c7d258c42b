-- Demand 3: "In the full way .. no one can do with fewer: for any two models and any stream accepted from the fresh shim, every other placing of
-- the target's fences among the same accesses, of any kinds and any number in a gap, that keeps all those pairs has at least as many fences." Of
-- the number that the call returns: it counts the fences of the rule's run, which has the fewest. Assumes nothing.
use Rattle.std.proofs.Common.{Ok}
use Prim.Native.Nat.{ℕ, ◌≤◌}
use mathlib.Core.Path.{◌≡◌, sym, subst}
use mathlib.Core.List.{List}
use native.Mathlib.Omega.{arith}
use Rattle.ground.proofs.Truths.{differ}
use Rattle.answers.specs.Answer.{Answer, wrote}
use Rattle.answers.specs.Given.{Delivers}
use Rattle.rule.specs.declared.way.Way.{Way}
use Rattle.rule.specs.Stream.{Stream, fences}
use Rattle.rule.specs.Pairs.{Keeps}
use Rattle.rule.specs.Rule.{way_number, Placing}
use Rattle.shims.specs.declared.Models.{Models}
use Rattle.runs.specs.Call.{outcome}
use Rattle.demands.specs.Streams.{StreamIn, Right}
use Rattle.demands.specs.Opened.{Opened, up, on}
use Rattle.demands.specs.DirectRuns.{RunDone}
use Rattle.demands.proofs.Demand2.{run_done}
use Rattle.demands.proofs.Opening.{opened_one}
use Rattle.demands.proofs.Reading.{reads_one}

full_way : (way : Way) → way_number Way.Full ≡ way_number way → way ≡ Way.Full
full_way Way.Sparing e = differ (sym e)
full_way Way.Full e = cc

module _ (upstream target stream : List ℕ) {out : List ℕ} {written inserted state : ℕ} {after : List ℕ}
    (call : Delivers (outcome (way_number Way.Full) upstream target stream) out (Ok (wrote written inserted state)) after) where
  -- The number of fences that a direct run in the full way returns is at most that of any placing of the target's fences that keeps every pair.
  pub no_one_with_fewer : {m : Models} → Opened (way_number Way.Full) upstream target m → (input : Stream) → StreamIn stream input
      → (other : Stream) → Placing (on m) input other → Keeps (up m) (on m) input other → inserted ≤ fences other
  no_one_with_fewer {m} o input reads other p k =
      let d : RunDone (way_number Way.Full) upstream target stream out written inserted state after = run_done call in
      let models : d.models ≡ m = opened_one d.opened o in
      let way : m.way ≡ Way.Full = full_way m.way o.way_named in
      let same : d.input ≡ input = reads_one stream d.input input d.input_read reads in
      let right = subst (λ (x : Models). Right x.way (up x) (on x) d.input d.output) models d.right in
      let fewest = (subst (λ (s : Stream). Right m.way (up m) (on m) s d.output) same right).fewest way other p k in
      omega (arith, d.counted, fewest)
