use Rattle.printing.proofs.Copying.{prints_is}
use Rattle.printing.proofs.Decimals.{last_more, last_all}
use Rattle.printing.proofs.Page.put_decimal.Goals as goal

pub loop-left-preserved : goal.loop-left-preserved
loop-left-preserved c = last_more _ c.loop-left.invariant c.loop-left-test.true

pub returns-clause-prints : goal.returns-clause-prints
returns-clause-prints c =
    let l = c.loop-left in
    prints_is (last_all l.first l.invariant c.loop-left-test.false) c.put.ensures.prints
