-- `read_nodes` meets its contract: the nodes, and the edges from the `0` behind them on. Assumes nothing.
use Rattle.std.proofs.Common.{Err}
use mathlib.Core.Path.{subst}
use borrow.Author.Rules.{rules}
use Rattle.texts.specs.Step.{Step}
use Rattle.drawing_label.specs.Label.{label_of, label_for}
use Rattle.drawing_reader.specs.inner.Whole.{FromEdges, ReadsDrawn}
use Rattle.drawing_reader.proofs.Reading.{header_shaped, stops_so, nodes_stop, nodes_few, nodes_go}
use Rattle.drawing_reader.proofs.read_nodes.Goals as goal

pub returns-in_err-first : goal.returns-in_err-first
returns-in_err-first c =
    stops_so {p = c.in_err-first.field-0.0} _ _ (search rules)
    (nodes_stop (label_of c.args.label) c.requires.1 c.args.text.now c.args.at c.nodes.ensures (search rules))

pub header_for-header-requires : goal.header_for-header-requires
header_for-header-requires c =
    let few = nodes_few (label_of c.args.label) c.requires.1 c.args.text.now c.args.at c.nodes.ensures
    {q = c.in_ok-first.first} {n = c.in_ok-first.states} (search rules) in
    (c.requires.0, few.1)

pub read_edges-requires : goal.read_edges-requires
read_edges-requires c =
    let few = nodes_few (label_of c.args.label) c.requires.1 c.args.text.now c.args.at c.nodes.ensures
    {q = c.in_ok-first.first} {n = c.in_ok-first.states} (search rules) in
    (header_shaped _ c.header_for-header.ensures.0 c.header_for-header.ensures.1 c.requires.1 few, search rules)

pub returns-in_err-next : goal.returns-in_err-next
returns-in_err-next c =
    let few = nodes_go (label_of c.args.label) c.requires.1 c.args.text.now c.args.at c.nodes.ensures
    {q = c.in_ok-first.first} {n = c.in_ok-first.states} (search rules) c.header_for-header.result c.args.rows.now c.read_edges.new.rows
    {x = Err c.in_err-next.field-0.0} c.header_for-header.ensures.0 c.header_for-header.ensures.1
    (search rules) in
    stops_so {p = c.in_err-next.field-0.0} _ _ (search rules) few.found

pub returns : goal.returns
returns c =
    let h = c.header_for-header.result in
    let a = c.args in
    let edges = subst
    (λ (x : Step). ReadsDrawn (FromEdges (label_for h) h.states) a.text.now c.in_ok-first.first a.rows.now h x c.read_edges.new.rows)
    c.in_ok-next.was c.read_edges.ensures in (
      nodes_go (label_of a.label) c.requires.1 a.text.now a.at c.nodes.ensures
          {q = c.in_ok-first.first} {n = c.in_ok-first.states} (search rules) _ _ _ c.header_for-header.ensures.0 c.header_for-header.ensures.1 edges,
      c.header_for-header.ensures.2,
      c.header_for-header.ensures.3,
    )
