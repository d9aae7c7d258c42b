-- `put_counts` meets its contract: its parts one behind another. Assumes nothing.
use Rattle.printing.proofs.Putting.{prints_put, put_then}
use Rattle.drawing.proofs.print.put_counts.Goals as goal

pub returns : goal.returns
returns c =
    put_then
    (prints_put c.put.ensures.prints)
    (put_then
    (prints_put c.put_decimal.ensures.prints)
    (put_then (prints_put c.put-2.ensures.prints) (put_then (prints_put c.put_decimal-2.ensures.prints) (prints_put c.put-3.ensures.prints))))
