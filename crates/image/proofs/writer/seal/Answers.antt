-- `seal` meets its contract: the block is all there, so that its check is the one that is stored. Assumes nothing.
use mathlib.Core.Path.{sym, ◌∙◌}
use native.Mathlib.Omega.{arith}
use Rattle.image.specs.inner.Filling.{sealed}
use Rattle.blocks.proofs.Blocks.{check_there}
use Rattle.image.proofs.writer.seal.Goals as goal

pub returns : goal.returns
unfolding sealed
returns c = rw (c.block_check-check.ensures.0 ∙ sym (check_there _ _ (omega arith)))
