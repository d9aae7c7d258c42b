use Rattle.std.proofs.Common.{rules}
use Rattle.cases.proofs.Bars.{fields_on, fields_none}
use Rattle.cases.proofs.fields.start.Goals as goal

pub returns-then-at-input : goal.returns-then-at-input
returns-then-at-input c = search (fields_none, rules)

pub loop-preserved : goal.loop-preserved
loop-preserved c =
    let next = c.next-at.ensures in
    (next.upper_bound, fields_on c.args.k c.loop.counter c.loop.at c.next-at.result _ _ c.loop-test.true next.input_value c.loop.invariant.1)
