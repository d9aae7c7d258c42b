-- `put_next` meets its contract: the blank, and the number behind it. Assumes nothing.
use Rattle.printing.proofs.Putting.{prints_put, put_then}
use Rattle.cases.proofs.put_next.Goals as goal

pub returns : goal.returns
returns c =
    put_then (prints_put c.put.ensures.prints) (prints_put c.put_decimal.ensures.prints)
