-- `list_rest` meets its contract: the target text is the first that is found. Assumes nothing.
use mathlib.Core.Path.{ap, subst}
use Rattle.listing.specs.Shape.{with_target}
use Rattle.listing.specs.inner.Finding.{TextEnd}
use Rattle.listing.proofs.Stages.{shape_none}
use Rattle.listing.proofs.list_rest.Goals as goal

pub returns-in-None : goal.returns-in-None
returns-in-None c =
    let a = c.args in
    let no_text = subst (TextEnd a.rest.now) c.in-None.is c.text_end.ensures in
    shape_none a.out.now (ap (with_target a.upstream.now) no_text)
