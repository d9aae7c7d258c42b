-- `put_model` meets its contract: its parts one behind another. Assumes nothing.
use Rattle.printing.proofs.Putting.{prints_put, put_then}
use Rattle.writing.proofs.parts.put_model.Goals as goal

pub returns : goal.returns
returns c =
    put_then c.put_line.ensures (put_then c.put_fences.ensures (prints_put c.put.ensures.prints))
