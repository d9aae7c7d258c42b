use Rattle.printing.proofs.Turns.{put_no_turn, put_one_more}
use Rattle.listed.proofs.print.put_rows.Invariants.{states}
use Rattle.listed.proofs.print.put_rows.Goals as goal

pub loop-state-init : goal.loop-state-init
loop-state-init c =
    let a = c.args in
    put_no_turn (states a.rows.now a.letters)

pub loop-state-preserved : goal.loop-state-preserved
loop-state-preserved c =
    let l = c.loop-state in
    let a = c.args in
    put_one_more (states a.rows.now a.letters) l.state l.invariant c.put_state.ensures
