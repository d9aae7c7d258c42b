-- `write_drawing` meets its contract: no drawing is too long for the buffer of its own. Assumes nothing.
use Prim.Native.Nat.{ℕ}
use mathlib.Core.Path.{ap, ◌∙◌}
use mathlib.Core.List.{List}
use native.Mathlib.Omega.{arith}
use Rattle.answers.specs.Given.{gives}
use Rattle.answers.proofs.Given.{delivers_as}
use Rattle.printing.proofs.Putting.{put_fronts}
use Rattle.drawing.proofs.Longest.{drawing_length}
use Rattle.drawing.proofs.write_drawing.Goals as goal

pub returns : goal.returns
returns c =
    let a = c.args in
    let new = c.new-page.ensures in
    let text =
    c.text.ensures
    ∙ (put_fronts new.bytes_kept new.nothing_put c.put_drawing.ensures (omega (arith, drawing_length a.h a.rows.now c.requires.0))).bytes in
    delivers_as (ap (λ (t : List ℕ). gives t 0 0) text) c.write_out.ensures
