-- `list_tail` meets its contract: what stands behind the texts says whether there are parts. Assumes nothing.
use mathlib.Core.Path.{ap, subst}
use Rattle.listing.specs.Shape.{with_ending}
use Rattle.listing.specs.inner.Finding.{EndingAt}
use Rattle.listing.proofs.Stages.{shape_some, shape_none}
use Rattle.listing.proofs.list_tail.Goals as goal

pub returns-in-None : goal.returns-in-None
returns-in-None c =
    let a = c.args in
    let none = subst (EndingAt a.tail.now) c.in-None.is c.tail_of.ensures in
    shape_none a.out.now (ap (with_ending a.upstream.now a.target.now) none)

pub returns-in-Some : goal.returns-in-Some
returns-in-Some c =
    let a = c.args in
    let whole = (subst (EndingAt a.tail.now) c.in-Some.is c.tail_of.ensures).whole in
    shape_some (ap (with_ending a.upstream.now a.target.now) whole) c.list_parts.ensures
