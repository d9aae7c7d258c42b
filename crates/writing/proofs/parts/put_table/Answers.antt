-- `put_table` meets its contract: the rows one after another. Assumes nothing.
use Rattle.printing.proofs.Putting.{put_then}
use Rattle.writing.proofs.parts.put_table.Goals as goal

pub returns : goal.returns
returns c =
    put_then
    (put_then (put_then c.put_row.ensures c.put_row-2.ensures) c.put_row-3.ensures)
    c.put_row-4.ensures
