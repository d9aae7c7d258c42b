-- `only_run` meets its contract: the first line ends the text, and is a run's. Assumes nothing.
use mathlib.Core.Path.{subst}
use borrow.Author.Tests.{ne_eqb}
use lib.ListN.{length}
use Rattle.listing.specs.inner.Finding.{LineEnd}
use Rattle.listing.proofs.Endings.{run_alone, run_and_more}
use Rattle.listing.proofs.shape.only_run.Goals as goal

pub returns-then-n-rest : goal.returns-then-n-rest
returns-then-n-rest c =
    let line = subst (LineEnd c.args.rest.now) c.in-Some.is c.line_end.ensures in
    run_alone line c.if-n-rest.true c.is_run.ensures

pub returns-else-n-rest : goal.returns-else-n-rest
returns-else-n-rest c =
    let line = subst (LineEnd c.args.rest.now) c.in-Some.is c.line_end.ensures in
    rw (ne_eqb c.in-Some.n (length c.args.rest.now) c.if-n-rest.false) (run_and_more line c.if-n-rest.false)
