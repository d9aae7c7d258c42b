use Rattle.printing.proofs.Turns.{put_no_turn, put_one_more}
use Rattle.drawing.specs.Drawing.{state_edges}
use Rattle.drawing.proofs.print.put_edges.Goals as goal

pub loop-state-init : goal.loop-state-init
loop-state-init c =
    let a = c.args in
    put_no_turn (state_edges a.letters a.rows.now)

pub loop-state-preserved : goal.loop-state-preserved
loop-state-preserved c =
    let l = c.loop-state in
    let a = c.args in
    put_one_more (state_edges a.letters a.rows.now) l.state l.invariant c.put_state.ensures
