-- What the direct run of two models gives, in 01's words: bytes where every byte is an operation and the rule accepts them all, and otherwise the
-- refusal of the first byte at fault. By what the rule's run gives, and the first fault of the bytes. Assumes nothing.
use Rattle.std.proofs.Common.{Option, None, Some}
use Prim.Native.Nat.{ℕ, suc, ◌+◌}
use mathlib.Core.Path.{◌≡◌, refl, sym, ap, ap₂, subst, ◌∙◌}
use mathlib.Core.List.{List, [], ◌∷◌, ◌++◌, map, append-nil}
use native.Mathlib.Omega.{arith}
use lib.ListN.{length}
use Rattle.answers.specs.declared.Refusal.{Refusal}
use Rattle.answers.specs.Given.{Given, refuses}
use Rattle.operations.specs.declared.Operation.{Operation}
use Rattle.operations.specs.Operation.{byte_of}
use Rattle.rule.specs.Stream.{Stream}
use Rattle.rule.specs.Rule.{Ran, done, refused, run}
use Rattle.rule.proofs.Theorems.{refused_exactly_when}
use Rattle.shims.specs.declared.Models.{Models}
use Rattle.runs.specs.Bytes.{Judged, operations_from, operations, fault_from, fault, puts, outcome_of, direct}
use Rattle.demands.specs.Opened.{up, on}
use Rattle.demands.specs.DirectRuns.{StopsAt, Fault4, Fault5, Fault6, Accepts}
use Rattle.demands.proofs.Reading as reading
use Rattle.runs.proofs.Judging as judging
use Rattle.runs.proofs.Judging.{AtFault, is_bad, is_good}
use Rattle.demands.proofs.Reading.{read_then, reads_all, reads_length, faults, operation_at}

pub data DirectIs (m : Models) (stream : List ℕ) : Given → Type 0 where
  puts_out : {output : Stream} → Accepts m stream output → DirectIs m stream (puts (map byte_of output))
  at_4 : (place : ℕ) → StopsAt m stream place (Fault4 m) → DirectIs m stream (refuses (Refusal.NoOperation place))
  at_5 : (place : ℕ) → StopsAt m stream place (Fault5 m) → DirectIs m stream (refuses (Refusal.NoSuchFence place))
  at_6 : (place : ℕ) → StopsAt m stream place (Fault6 m) → DirectIs m stream (refuses (Refusal.NoFenceWillDo place))

module _ (m : Models) (stream : List ℕ) where
  abbrev n : ℕ
  n = length (up m).fences

  abbrev ops : Stream
  ops = operations n 0 stream

  abbrev ran : Stream → Ran
  ran s = run m.way (up m) (on m) s

  abbrev given : Given
  given = direct m.way (up m) (on m) stream

  -- what is given is one of these
  pub direct_is : DirectIs m stream given
  unfolding direct
  direct_is = by (ran ops) refl (fault n 0 stream) refl
    where
      stuck : (i : ℕ) → ran ops ≡ refused i → StopsAt m stream i (Fault6 m)
      stuck i r =
          let w = (refused_exactly_when m.way (up m) (on m) ops i).0 r in
          let s = operation_at n 0 stream w.first (Operation.Access w.kind) w.rest w.split in
          record {
            first = s.before;
            byte = s.byte;
            rest = s.rest;
            split = s.split;
            index = reads_length s.before w.first s.reads ∙ w.index;
            input = w.first;
            input_read = s.reads;
            input_own = s.below;
            output = w.out;
            accepted = w.accepted;
            fault = (w.kind, s.is, w.short, w.none_will_do);
          }

      stopped : (out : Stream) → ran ops ≡ done out → (why : Refusal) → reading.FaultAt n 0 stream why → DirectIs m stream (refuses why)
      stopped out r why f = look f.at_fault
        where
          at : (Fault : ℕ → Stream → Stream → Type 0) → Fault f.byte ops out → StopsAt m stream (0 + length f.first) Fault
          at Fault h =
              record {
                first = f.first;
                byte = f.byte;
                rest = f.rest;
                split = f.split;
                index = omega arith;
                input = ops;
                input_read = f.reads;
                input_own = f.below;
                output = out;
                accepted = r;
                fault = h;
              }

          look : {is : Refusal} → AtFault n (0 + length f.first) f.byte is → DirectIs m stream (refuses is)
          look (judging.no_operation e) = at_4 _ (at (Fault4 m) e)
          look (judging.no_such_fence g e l) = at_5 _ (at (Fault5 m) (g, e, l))

      by : (r : Ran) → ran ops ≡ r → (f : Option Refusal) → fault n 0 stream ≡ f → DirectIs m stream (outcome_of 0 r f)
      by (refused i) r f g =
          let z : i ≡ 0 + i = omega arith in
          subst (λ (k : ℕ). DirectIs m stream (refuses (Refusal.NoFenceWillDo k))) z (at_6 i (stuck i r))
      by (done out) r None g =
          let a = reads_all n 0 stream g in
          puts_out (record { input = ops; input_read = a.0; input_own = a.1; accepted = r })
      by (done out) r (Some why) g = stopped out r why (faults n 0 stream why g)

  -- the stream up to a byte at which it stops, and from there on
  module _ {place : ℕ} {Fault : ℕ → Stream → Stream → Type 0} (s : StopsAt m stream place Fault) where
    abbrev rest_ops : Stream
    rest_ops = operations n (0 + length s.first) (s.byte ∷ s.rest)

    begins : (ops ≡ s.input ++ rest_ops) × (fault n 0 stream ≡ fault n (0 + length s.first) (s.byte ∷ s.rest))
    begins =
        let t = read_then n 0 s.first s.input (s.byte ∷ s.rest) s.input_read s.input_own in
        (ap (operations n 0) s.split ∙ t.0, ap (fault n 0) s.split ∙ t.1)

    stops_so : {why : Refusal} → AtFault n (length s.first) s.byte why → given ≡ refuses why
    unfolding direct operations fault
    stops_so {why} h =
        let z : length s.first ≡ 0 + length s.first = omega arith in
        let j = is_bad n (0 + length s.first) s.byte (subst (λ (k : ℕ). AtFault n k s.byte why) z h) in
        let none_left : rest_ops ≡ [] =
        ap (λ (x : Judged). operations_from x (operations n (suc (0 + length s.first)) s.rest)) j in
        let whole : ops ≡ s.input = begins.0 ∙ ap (λ (l : Stream). s.input ++ l) none_left ∙ append-nil s.input in
        let at : fault n 0 stream ≡ Some why =
        begins.1 ∙ ap (λ (x : Judged). fault_from x (fault n (suc (0 + length s.first)) s.rest)) j in
        ap₂ (λ (r : Ran) (f : Option Refusal). outcome_of 0 r f) (ap ran whole ∙ s.accepted) at

  -- and what is one of these is given
  pub is_direct : {g : Given} → DirectIs m stream g → given ≡ g
  unfolding direct operations fault
  is_direct (puts_out {output = out} a) =
      let t = read_then n 0 stream a.input [] a.input_read a.input_own in
      let whole : ops ≡ a.input = ap (operations n 0) (sym (append-nil stream)) ∙ t.0 ∙ append-nil a.input in
      let none-at : fault n 0 stream ≡ None = ap (fault n 0) (sym (append-nil stream)) ∙ t.1 in
      ap₂ (λ (r : Ran) (f : Option Refusal). outcome_of 0 r f) (ap ran whole ∙ a.accepted) none-at
  is_direct (at_4 place s) =
      stops_so s (judging.no_operation s.fault) ∙ ap (λ (k : ℕ). refuses (Refusal.NoOperation k)) s.index
  is_direct (at_5 place s) =
      stops_so s (judging.no_such_fence s.fault.0 s.fault.1 s.fault.2) ∙ ap (λ (k : ℕ). refuses (Refusal.NoSuchFence k)) s.index
  is_direct (at_6 place s) =
      let k = s.fault.0 in
      let j = is_good n (0 + length s.first) s.byte (Operation.Access k) s.fault.1 tt in
      let more = operations n (suc (0 + length s.first)) s.rest in
      let here : rest_ops s ≡ Operation.Access k ∷ more = ap (λ (x : Judged). operations_from x more) j in
      let stuck : ran ops ≡ refused place =
      (refused_exactly_when m.way (up m) (on m) ops place).1
      (record {
        first = s.input;
        kind = k;
        rest = more;
        out = s.output;
        split = (begins s).0 ∙ ap (λ (l : Stream). s.input ++ l) here;
        index = sym (reads_length s.first s.input s.input_read) ∙ s.index;
        accepted = s.accepted;
        short = s.fault.2;
        none_will_do = s.fault.3;
      }) in
      let z : 0 + place ≡ place = omega arith in
      ap (λ (r : Ran). outcome_of 0 r (fault n 0 stream)) stuck ∙ ap (λ (k : ℕ). refuses (Refusal.NoFenceWillDo k)) z
