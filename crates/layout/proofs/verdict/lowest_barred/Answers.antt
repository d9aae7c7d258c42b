-- `lowest_barred` meets its contract: the lowest in front, else the lowest behind. Assumes nothing.
use mathlib.Core.Path.{sym, ◌∙◌}
use Rattle.layout.proofs.Zeros.{found_in_front, found_behind}
use Rattle.layout.proofs.verdict.lowest_barred.Goals as goal

pub returns-in-Some : goal.returns-in-Some
returns-in-Some c = found_in_front c.args.image.now _ _ c.header_end-end.ensures.0 (sym c.in-Some.is ∙ c.barred_in_front.ensures)

pub returns : goal.returns
returns c =
    c.barred_behind.ensures
    ∙ found_behind c.args.image.now _ c.header_end-end.ensures.0 (sym c.in_default.is ∙ c.barred_in_front.ensures)
