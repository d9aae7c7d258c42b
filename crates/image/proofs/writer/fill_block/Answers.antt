-- `fill_block` meets its contract: a block is filled, and then sealed. Assumes nothing.
use native.Mathlib.Omega.{arith}
use Rattle.image.proofs.Sealing.{sealed_front}
use Rattle.image.proofs.writer.fill_block.Goals as goal

pub returns : goal.returns
returns c =
    let pre = c.requires in
    rw c.seal.ensures (sealed_front _ _ _ c.fill_contents.ensures (omega arith))
