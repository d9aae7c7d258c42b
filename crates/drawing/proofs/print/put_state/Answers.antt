use mathlib.Core.Path.{◌≡◌, ap}
use native.Mathlib.Omega.{arith}
use Rattle.printing.specs.Turns.{in_turn}
use Rattle.printing.proofs.Putting.{put_is}
use Rattle.printing.proofs.Turns.{put_no_turn, put_one_more}
use Rattle.drawing.proofs.print.put_state.Invariants.{edges}
use Rattle.drawing.proofs.print.put_state.Goals as goal

pub loop-letter-init : goal.loop-letter-init
loop-letter-init c =
    let a = c.args in
    put_no_turn (edges a.rows.now a.state)

pub loop-letter-preserved : goal.loop-letter-preserved
loop-letter-preserved c =
    let l = c.loop-letter in
    let a = c.args in
    put_one_more (edges a.rows.now a.state) l.letter l.invariant c.put_edge.ensures

pub returns : goal.returns
returns c =
    let a = c.args in
    let l = c.loop-letter in
    let all : l.letter ≡ a.letters = omega arith in
    put_is (ap (in_turn (edges a.rows.now a.state)) all) l.invariant
