-- `edge_line` meets its contract: the state and the arrow decide, and then the rest. Assumes nothing.
use borrow.Author.Rules.{rules}
use Rattle.drawing_edges.specs.Edges.{nearest}
use Rattle.drawing_edges.proofs.EdgeParts.{edge_stops, edge_goes}
use Rattle.drawing_edges.proofs.Shapes.{nearest_shaped}
use Rattle.drawing_edges.proofs.edge_line.Goals as goal

pub returns-in_err-past : goal.returns-in_err-past
returns-in_err-past c =
    let a = c.args in
    let stop = edge_stops (nearest a.shape) (nearest_shaped a.shape) a.state a.letter {t = a.text.now} {at = a.at} c.follow_decimal.ensures c.in_err-past.was in
    search (rules, stop)

pub returns : goal.returns
returns c =
    let a = c.args in
    let end = c.edge_end.ensures in
    edge_goes (nearest a.shape) (nearest_shaped a.shape) a.state a.letter c.follow_decimal.ensures c.in_ok-past.was (search (rules, end))
