-- `list` meets its contract: the upstream text is the first that is found. Assumes nothing.
use mathlib.Core.Path.{ap, subst}
use Rattle.listing.specs.Shape.{with_upstream}
use Rattle.listing.specs.inner.Finding.{TextEnd}
use Rattle.listing.proofs.Stages.{shape_as, shape_none, upstream_found, input_over, input_within}
use Rattle.listing.proofs.list.Goals as goal

pub returns-then-input-gt32768 : goal.returns-then-input-gt32768
returns-then-input-gt32768 c = input_over c.args.input.now c.args.out.now c.if-input-gt32768.true

pub returns-in-None : goal.returns-in-None
returns-in-None c =
    let a = c.args in
    let no_text = subst (TextEnd a.input.now) c.in-None.is c.text_end.ensures in
    input_within c.if-input-gt32768.false (shape_none a.out.now (ap with_upstream no_text))

pub returns-in-Some : goal.returns-in-Some
returns-in-Some c =
    let a = c.args in
    let found = subst (TextEnd a.input.now) c.in-Some.is c.text_end.ensures in
    input_within c.if-input-gt32768.false (shape_as (upstream_found a.input.now found) c.list_rest.ensures)
