-- `put_node` meets its contract: its parts one behind another. Assumes nothing.
use Rattle.printing.proofs.Putting.{prints_put, put_then}
use Rattle.drawing.proofs.print.put_node.Goals as goal

pub returns : goal.returns
returns c =
    put_then (prints_put c.put_decimal.ensures.prints) (prints_put c.put.ensures.prints)
