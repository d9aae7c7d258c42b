-- `list_models` meets its contract: what the run answers is what the direct run gives. Assumes nothing.
use Prim.Native.Nat.{ℕ}
use mathlib.Core.Path.{refl, sym}
use borrow.Author.Rules.{rules}
use lib.ListN.{replicate, length-replicate}
use lib.Seq.{length-take-le}
use Rattle.answers.specs.Given.{refuses}
use Rattle.answers.proofs.Given.{refusal_delivered, answers_by}
use Rattle.listed.specs.Parts.{halts, runs}
use Rattle.listed.proofs.Direct.{run_refused, run_taken}
use Rattle.listed.proofs.list_models.Goals as goal

pub slice_bounds-output-end : goal.slice_bounds-output-end
slice_bounds-output-end c =
    let a = c.args in
    (run_taken a.models a.stream.now (replicate 8192 0) (length-replicate {A = ℕ} 8192 0) c.run_models.ensures
    {d = c.in_ok-ran.ran} (search rules)).fits

pub slice_bounds-list_machine-end : goal.slice_bounds-list_machine-end
slice_bounds-list_machine-end c =
    let a = c.args in
    let ran = run_taken a.models a.stream.now (replicate 8192 0) (length-replicate {A = ℕ} 8192 0) c.run_models.ensures
    {d = c.in_ok-ran.ran} (search rules) in
    sym (length-take-le _ c.run_models.new.out ran.fits)

pub list_machine-requires : goal.list_machine-requires
list_machine-requires c =
    let a = c.args in
    let ran = run_taken a.models a.stream.now (replicate 8192 0) (length-replicate {A = ℕ} 8192 0) c.run_models.ensures
    {d = c.in_ok-ran.ran} (search rules) in
    (c.requires, ran.output)

pub returns-in_err-ran : goal.returns-in_err-ran
returns-in_err-ran c =
    let a = c.args in
    record {
      given = refuses c.in_err-ran.field-0.0;
      right = halts (run_refused a.models a.stream.now (replicate 8192 0) (length-replicate {A = ℕ} 8192 0) c.run_models.ensures
          {why = c.in_err-ran.field-0.0} (search rules));
      delivered = refusal_delivered a.out.now refl (search rules);
    }

pub returns : goal.returns
returns c =
    let a = c.args in
    let ran = run_taken a.models a.stream.now (replicate 8192 0) (length-replicate {A = ℕ} 8192 0) c.run_models.ensures
    {d = c.in_ok-ran.ran} (search rules) in
    answers_by (λ g h. runs ran.is h) c.list_machine.ensures
