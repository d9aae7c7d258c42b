-- `put_drawing` meets its contract: its parts one behind another. Assumes nothing.
use Rattle.printing.proofs.Putting.{prints_put, put_then, put_is}
use Rattle.drawing.proofs.Parts.{drawing_text}
use Rattle.drawing.proofs.print.put_drawing.Goals as goal

pub returns : goal.returns
returns c =
    let a = c.args in
    put_is
    (drawing_text a.h a.rows.now _ _ c.wide-states.ensures.0 c.wide-letters.ensures.0)
    (put_then
    (prints_put c.put.ensures.prints)
    (put_then
    c.put_label.ensures
    (put_then c.put_nodes.ensures (put_then c.put_edges.ensures (prints_put c.put-2.ensures.prints)))))
