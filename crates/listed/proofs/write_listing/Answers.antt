-- `write_listing` meets its contract: no listing is too long for the buffer of its own. Assumes nothing.
use Prim.Native.Nat.{ℕ}
use mathlib.Core.Path.{ap, ◌∙◌}
use mathlib.Core.List.{List}
use native.Mathlib.Omega.{arith}
use Rattle.answers.specs.Given.{gives}
use Rattle.answers.proofs.Given.{delivers_as}
use Rattle.listed.proofs.Made.{listing_fronts}
use Rattle.listed.proofs.write_listing.Goals as goal

pub returns : goal.returns
returns c =
    let a = c.args in
    let upstream = c.well_formed.0.1.1.1.0 in
    let target = c.well_formed.0.1.1.1.1.0 in
    let first = upstream.1.1.1.1.1.0 in
    let second = target.1.1.1.1.1.0 in
    let new = c.new-page.ensures in
    let text =
    c.text.ensures
    ∙ (listing_fronts a.models a.machine a.rows.now a.output.now a.fences first.1.1.0.1.0.1 second.1.1.0.1.0.1 c.requires
    new.bytes_kept new.nothing_put c.put_listing.ensures (omega arith)).bytes in
    delivers_as (ap (λ (t : List ℕ). gives t a.fences 0) text) c.write_out.ensures
