-- `put_way` meets its contract: each way has its word. Assumes nothing.
use Rattle.printing.proofs.Putting.{prints_put, put_is}
use Rattle.drawing.proofs.Parts.{sparing_word, full_word}
use Rattle.drawing.proofs.print.put_way.Goals as goal

pub returns-then-way-eq0 : goal.returns-then-way-eq0
returns-then-way-eq0 c =
    put_is (sparing_word _ c.if-way-eq0.true) (prints_put c.put.ensures.prints)

pub returns-else-way-eq0 : goal.returns-else-way-eq0
returns-else-way-eq0 c =
    put_is (full_word _ c.if-way-eq0.false) (prints_put c.put-else-way-eq0.ensures.prints)
