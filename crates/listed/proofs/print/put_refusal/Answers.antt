-- `put_refusal` meets its contract: its parts one behind another. Assumes nothing.
use Rattle.printing.proofs.Putting.{prints_put, put_then}
use Rattle.listed.proofs.print.put_refusal.Goals as goal

pub returns : goal.returns
returns c =
    put_then (prints_put c.put.ensures.prints) (put_then (prints_put c.put_decimal.ensures.prints) c.put_number_line.ensures)
