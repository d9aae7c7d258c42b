-- `read` meets its contract: the label, and what is behind it. Assumes nothing.
use borrow.Author.Rules.{rules}
use Rattle.drawing_reader.proofs.Reading.{label_stop, label_formed, label_go}
use Rattle.drawing_reader.proofs.read.Goals as goal

pub returns-in_err-label : goal.returns-in_err-label
returns-in_err-label c =
    let stop = label_stop c.args.text.now c.label.ensures.0 {p = c.in_err-label.field-0.0} (search rules) in
    search (rules, stop)

pub read_nodes-requires : goal.read_nodes-requires
read_nodes-requires c =
    let formed = label_formed c.args.text.now c.label.ensures.0 c.in_ok-label.label (search rules) in
    search (rules, formed)

pub returns : goal.returns
returns c = label_go c.args.text.now c.label.ensures.0 c.in_ok-label.label (search rules) _ _ _ c.read_nodes.ensures
