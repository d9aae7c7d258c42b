-- `read_edges` meets its contract: the rows, and the last line behind them. Assumes nothing.
use borrow.Author.Rules.{rules}
use Rattle.drawing_reader.proofs.Reading.{shape_is, edges_stop, edges_end}
use Rattle.drawing_reader.proofs.read_edges.Goals as goal

pub returns-in_err-end : goal.returns-in_err-end
returns-in_err-end c =
    let is = shape_is c.args.header c.wide.ensures.0 c.wide-2.ensures.0 in
    edges_stop c.args.header c.requires.0 is c.args.text.now c.args.at c.args.rows.now _ c.edge_rows.ensures
    {p = c.in_err-end.field-0.0} (search rules) (search rules)

pub returns : goal.returns
returns c =
    let is = shape_is c.args.header c.wide.ensures.0 c.wide-2.ensures.0 in
    edges_end c.args.header c.requires.0 is c.args.text.now c.args.at c.args.rows.now _ c.edge_rows.ensures
    (search rules) c.follow.ensures
