use native.Mathlib.Omega.{arith}
use Rattle.image.proofs.Fronts.{front_to, front_all}
use Rattle.image.proofs.reader.fill_rows.Goals as goal

pub returns : goal.returns
returns c = front_all (front_to c.loop-j.invariant _ (omega arith)) c.loop-j.auto.rows
