-- `edge_end` meets its contract: the letter decides, and then the first byte. Assumes nothing.
use Rattle.drawing_edges.proofs.EdgeParts.{end_refused, end_led}
use borrow.Author.Rules.{rules}
use Rattle.drawing_edges.proofs.edge_end.Goals as goal

pub returns-then-byte_at-eq114 : goal.returns-then-byte_at-eq114
returns-then-byte_at-eq114 c = search (end_refused, rules)

pub returns : goal.returns
returns c = search (end_led, rules)
