use Prim.Native.Nat.{ℕ}
use mathlib.Core.List.{List}
use Rattle.printing.proofs.Turns.{put_no_turn, put_one_more}
use Rattle.machine.specs.Rows.{answer_at}
use Rattle.listed.specs.Printed.{step_line}
use Rattle.listed.proofs.print.put_state.Goals as goal

-- the line of each letter
abbrev steps : ℕ → List ℕ → ℕ → List ℕ
steps state rows letter = step_line state letter (answer_at rows state letter)

pub loop-letter-init : goal.loop-letter-init
loop-letter-init c =
    let a = c.args in
    put_no_turn (steps a.state a.rows.now)

pub loop-letter-preserved : goal.loop-letter-preserved
loop-letter-preserved c =
    let l = c.loop-letter in
    let a = c.args in
    put_one_more (steps a.state a.rows.now) l.letter l.invariant c.put_step.ensures
