-- `block_check` meets its contract: a block below the length's 512th part is all there. Assumes nothing.
use mathlib.Core.Path.{◌∙◌}
use native.Mathlib.Omega.{arith}
use Rattle.blocks.specs.Wrong.{check_of}
use Rattle.blocks.proofs.Blocks.{check_there, check_absent}
use Rattle.blocks.proofs.block_check.Goals as goal

pub returns-then-b-image : goal.returns-then-b-image
unfolding check_of
returns-then-b-image c = (c.check.ensures.0 ∙ check_there _ _ c.if-b-image.true, c.check.ensures.1)

pub returns-else-b-image : goal.returns-else-b-image
returns-else-b-image c = (check_absent _ _ c.if-b-image.false, omega arith)
