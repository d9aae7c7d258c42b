-- `fill_contents` meets its contract: after p turns the first p bytes of the block are those of the image. Assumes nothing.
use Prim.Native.Nat.{◌+◌, ◌*◌}
use Rattle.image.specs.Image.{byte_at}
use Rattle.image.specs.inner.Filling.{Front}
use Rattle.image.proofs.writer.fill_contents.Given as goal

abbrev pub invariant-loop-p : goal.invariant-loop-p
invariant-loop-p l = Front (byte_at l.h l.rows) (512 * l.b + l.p) l.image
