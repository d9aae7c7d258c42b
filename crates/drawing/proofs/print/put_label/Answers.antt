-- `put_label` meets its contract: its parts one behind another. Assumes nothing.
use Rattle.printing.proofs.Putting.{prints_put, put_then}
use Rattle.drawing.proofs.print.put_label.Goals as goal

pub returns : goal.returns
returns c =
    put_then
    (prints_put c.put.ensures.prints)
    (put_then
    (prints_put c.put_name.ensures.prints)
    (put_then
    (prints_put c.put-2.ensures.prints)
    (put_then
    (prints_put c.put_name-2.ensures.prints)
    (put_then (prints_put c.put-3.ensures.prints) (put_then c.put_way.ensures c.put_counts.ensures)))))
