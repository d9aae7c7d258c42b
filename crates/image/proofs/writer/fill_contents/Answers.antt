use native.Mathlib.Omega.{arith}
use Rattle.image.proofs.Sealing.{contents_next}
use Rattle.image.proofs.writer.fill_contents.Goals as goal

pub loop-p-preserved : goal.loop-p-preserved
loop-p-preserved c = contents_next _ _ _ _ _ c.loop-p.invariant c.loop-p-test.true (omega arith) c.value_at.ensures
