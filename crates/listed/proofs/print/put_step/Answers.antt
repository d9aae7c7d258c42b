-- `put_step` meets its contract: its parts one behind another. Assumes nothing.
use mathlib.Core.Path.{◌∙◌}
use Rattle.printing.proofs.Putting.{prints_put, put_then, put_is}
use Rattle.listed.proofs.Printing.{mark_word, step_text}
use Rattle.listed.proofs.print.put_step.Goals as goal

pub returns : goal.returns
returns c =
    let a = c.args in
    put_is
    (step_text a.state a.letter a.word _ _ _ c.letter_byte.ensures (c.fence_mark.ensures ∙ mark_word a.word)
    c.next_of.ensures)
    (put_then (prints_put c.put_decimal.ensures.prints) (put_then (prints_put c.put.ensures.prints) c.put_number_line.ensures))
