use Rattle.machine.proofs.Firsts.{writing_next, writing_end}
use Rattle.machine.proofs.rows.write_rows.Goals as goal

pub loop-i-preserved : goal.loop-i-preserved
loop-i-preserved c x =
    writing_next x (c.loop-i.invariant x) c.loop-i-test.true c.write_first-q.ensures

pub returns : goal.returns
returns c x = writing_end x (c.loop-i.invariant x) c.loop-i-test.false
