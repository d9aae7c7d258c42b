-- `put_five` meets its contract: the first number, and each of the others behind a blank. Assumes nothing.
use Rattle.printing.proofs.Putting.{prints_put, put_then, put_none}
use Rattle.cases.proofs.put_five.Goals as goal

pub returns : goal.returns
returns c =
    put_then (prints_put c.put_decimal.ensures.prints)
    (put_then c.put_next.ensures
    (put_then c.put_next-2.ensures (put_then c.put_next-3.ensures (put_then c.put_next-4.ensures put_none))))
