use mathlib.Core.Path.{sym}
use borrow.Author.Rules.{rules}
use Rattle.runs.proofs.Running.{starts, ends, stops, goes_on}
use Rattle.runs.proofs.run_stream.Goals as goal

pub loop-at-init : goal.loop-at-init
loop-at-init c = search (starts, rules)

pub returns-in_err-step : goal.returns-in_err-step
returns-in_err-step c =
    let a = c.args in
    stops a.sides a.stream.now c.loop-at.invariant c.in_err-step.field-0.0 _ _ c.loop-at-test.true c.advance.ensures (search rules) (search rules)

pub loop-at-preserved : goal.loop-at-preserved
loop-at-preserved c =
    let a = c.args in
    goes_on a.sides a.stream.now c.loop-at.invariant _ _ _
    c.loop-at-test.true c.requires.0 (search rules) (sym c.lay-next.ensures.answer)
    c.lay-next.ensures.buffer

pub returns : goal.returns
returns c = search (ends, rules)
