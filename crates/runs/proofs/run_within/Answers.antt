-- `run_within` meets its contract: the run by moves is the direct run. Assumes nothing.
use Prim.Native.Nat.{ℕ}
use lib.ListN.{take}
use mathlib.Core.Path.{sym, ap, ◌∙◌}
use borrow.Author.Rules.{rules}
use Rattle.answers.specs.Given.{gives}
use Rattle.answers.proofs.Given.{delivers_as, refusal_delivered}
use Rattle.runs.proofs.ByMoves.{direct_between}
use Rattle.runs.proofs.Ending.{written_fits, written_given, refusal_given}
use Rattle.runs.proofs.run_within.Goals as goal

pub slice_bounds-buffer-end : goal.slice_bounds-buffer-end
slice_bounds-buffer-end c = written_fits c.run_stream.ensures (search rules)

pub returns-in_err-written : goal.returns-in_err-written
returns-in_err-written c =
    let a = c.args in
    let e = direct_between a.sides a.stream.now in
    refusal_delivered a.out.now {why = c.in_err-written.field-0.0} (e ∙ refusal_given c.run_stream.ensures (search rules)) (search rules)

pub returns : goal.returns
returns c =
    let a = c.args in
    let e = direct_between a.sides a.stream.now in
    let given = e ∙ written_given c.run_stream.ensures {n = c.in_ok-written.written} (search rules) in
    delivers_as
    (ap (λ (k : ℕ). gives (take c.in_ok-written.written c.run_stream.new.buffer) k 0) c.fences_in.ensures ∙ sym given)
    c.write_out.ensures
