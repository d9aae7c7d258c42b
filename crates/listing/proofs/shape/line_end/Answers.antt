-- `line_end` meets its contract: the first line ends with the first line feed. Assumes nothing.
use native.Mathlib.Omega.{arith}
use Rattle.listing.proofs.Lines.{line_ends, line_endless}
use Rattle.listing.proofs.shape.line_end.Goals as goal

pub returns-then-n-text : goal.returns-then-n-text
returns-then-n-text c = line_ends c.args.text.now c.find-n.result (omega (arith, c.find-n.ensures.value)) c.if-n-text.true

pub returns-else-n-text : goal.returns-else-n-text
returns-else-n-text c = line_endless c.args.text.now c.find-n.result (omega (arith, c.find-n.ensures.value)) c.if-n-text.false
