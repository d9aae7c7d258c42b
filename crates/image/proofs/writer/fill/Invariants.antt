-- `fill` meets its contract: after b turns the first b blocks are those of the image. Assumes nothing.
use Prim.Native.Nat.{◌*◌}
use Rattle.image.specs.Image.{byte_at}
use Rattle.image.specs.inner.Filling.{Front}
use Rattle.image.proofs.writer.fill.Given as goal

abbrev pub invariant-loop-b : goal.invariant-loop-b
invariant-loop-b l = Front (byte_at l.h l.rows) (512 * l.b) l.image
