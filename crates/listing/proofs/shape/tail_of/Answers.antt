-- `tail_of` meets its contract: a way's line, and behind it a run's alone. Assumes nothing.
use mathlib.Core.Path.{sym, subst, ◌∙◌}
use Rattle.listing.specs.inner.Finding.{LineEnd, OnlyRun}
use Rattle.listing.proofs.Endings.{ending_is}
use Rattle.listing.proofs.shape.tail_of.Goals as goal

pub returns-then-only_run : goal.returns-then-only_run
returns-then-only_run c =
    let t = c.args.text.now in
    ending_is (subst (LineEnd t) c.in_ok-n.was c.line_end.ensures) (sym c.in_ok-way.was ∙ c.way_in.ensures)
    (subst (OnlyRun _) c.if-only_run.true c.only_run.ensures)
