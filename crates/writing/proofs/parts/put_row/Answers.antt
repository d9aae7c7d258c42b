-- `put_row` meets its contract: its bytes are the letters of its cells and the one behind them. Assumes nothing.
use mathlib.Core.List.{[], ◌∷◌}
use Rattle.printing.proofs.Putting.{put_is, prints_put}
use Rattle.writing.proofs.parts.put_row.Goals as goal

pub returns : goal.returns
returns c =
    let e = c.args.end in
    put_is
    (λ i.
    c.cell_letter.ensures i ∷ c.cell_letter-2.ensures i ∷ c.cell_letter-3.ensures i
    ∷ c.cell_letter-4.ensures i ∷ e ∷ [])
    (prints_put c.put.ensures.prints)
