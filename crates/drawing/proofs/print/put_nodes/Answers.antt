use Rattle.printing.proofs.Turns.{put_no_turn, put_one_more}
use Rattle.drawing.specs.Drawing.{node_line}
use Rattle.drawing.proofs.print.put_nodes.Goals as goal

pub loop-state-init : goal.loop-state-init
loop-state-init c = put_no_turn node_line

pub loop-state-preserved : goal.loop-state-preserved
loop-state-preserved c =
    let l = c.loop-state in
    put_one_more node_line l.state l.invariant c.put_node.ensures
