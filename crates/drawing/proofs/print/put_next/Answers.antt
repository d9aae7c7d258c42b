-- `put_next` meets its contract: by whether the word says refused. Assumes nothing.
use Rattle.printing.proofs.Putting.{prints_put, put_is}
use Rattle.drawing.proofs.Parts.{leads_refused, leads_on}
use Rattle.drawing.proofs.print.put_next.Goals as goal

pub returns-then-word-eq254 : goal.returns-then-word-eq254
returns-then-word-eq254 c =
    put_is (leads_refused _ c.if-word-eq254.true) (prints_put c.put.ensures.prints)

pub returns-else-word-eq254 : goal.returns-else-word-eq254
returns-else-word-eq254 c =
    put_is (leads_on _ c.if-word-eq254.false) (prints_put c.put_decimal.ensures.prints)
