-- What a call has done that gives a listing: it has gone through its stages, and what it tells is what its own theorem says (`accepted_input` in
-- listing), with the texts' models and the run in 01's words. Assumes nothing.
use Rattle.std.proofs.Common.{Option, Ok}
use Prim.Native.Nat.{ℕ}
use mathlib.Core.Path.{sym, ap, subst, ◌∙◌}
use mathlib.Core.List.{List}
use lib.ListN.{take}
use Rattle.rule.specs.declared.way.Way.{Way}
use Rattle.answers.specs.Answer.{Answer, wrote}
use Rattle.answers.specs.Given.{Answers}
use Rattle.rule.specs.Rule.{way_number}
use Rattle.shims.specs.declared.Models.{Models}
use Rattle.shims.specs.Opening.{Opening, way_of, on_opened, Opens}
use Rattle.shims.proofs.Theorems.{read_written, opens_so}
use Rattle.runs.specs.Call.{run_given}
use Rattle.listing.specs.Listed.{Listed}
use Rattle.listing.specs.inner.Accepted.{AcceptedInput}
use Rattle.listing.proofs.Theorems.{accepted_input}
use Rattle.demands.specs.Listings.{ListDone}
use Rattle.demands.proofs.Delivered.{Gave, done_gave}
use Rattle.demands.proofs.Opening.{opens_told}

pub listing_done : (input : List ℕ) {out : List ℕ} {written fences state : ℕ} {after : List ℕ}
    → Answers (Listed input) out (Ok (wrote written fences state)) after → ListDone input out written fences state after
listing_done input {out} {written} {fences} {state} {after} call =
    let gave : Gave call.given out written fences state after = done_gave call.delivered in
    let a : AcceptedInput input (take written after) fences state
    = accepted_input input (take written after) fences state (subst (Listed input) gave.is call.right) in
    let opens : Opens (way_of (way_number a.parts.way)) a.parts.upstream a.parts.target a.models
    = subst (λ (w : Option Way). Opens w a.parts.upstream a.parts.target a.models) (sym (read_written a.parts.way)) a.opens in
    record {
      within = a.within;
      parts = a.parts;
      shaped = a.shaped;
      models = a.models;
      opened = opens_told opens;
      states = a.states;
      row = a.row;
      described = a.described;
      output = a.output;
      ran = ap (λ (o : Opening). on_opened o λ (m : Models). run_given m a.parts.stream) (opens_so opens) ∙ a.ran;
      text = a.text_is;
      counted = a.fences_are;
      no_state = a.no_state;
      size = gave.size;
      fits = gave.fits;
      rest_kept = gave.rest;
    }
