-- `put_edge` meets its contract: its parts one behind another. Assumes nothing.
use Rattle.printing.proofs.Putting.{prints_put, put_then, put_is}
use Rattle.drawing.proofs.Parts.{edge_text}
use Rattle.drawing.proofs.print.put_edge.Goals as goal

pub returns : goal.returns
returns c =
    let a = c.args in
    put_is
    (edge_text a.state a.letter a.word _ _ c.letter_byte.ensures c.fence_mark.ensures)
    (put_then
    (prints_put c.put_decimal.ensures.prints)
    (put_then
    (prints_put c.put.ensures.prints)
    (put_then
    c.put_next.ensures
    (put_then
    (prints_put c.put-2.ensures.prints)
    (put_then (prints_put c.put-3.ensures.prints) (prints_put c.put-4.ensures.prints))))))
