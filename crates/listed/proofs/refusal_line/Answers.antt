-- `refusal_line` meets its contract: no refusal's line is too long for the buffer of its own. Assumes nothing.
use Prim.Native.Nat.{ℕ}
use mathlib.Core.Path.{ap, ◌∙◌}
use mathlib.Core.List.{List}
use native.Mathlib.Omega.{arith}
use Rattle.answers.specs.Given.{gives}
use Rattle.answers.proofs.Given.{delivers_as}
use Rattle.listed.proofs.Made.{refused_fronts}
use Rattle.listed.proofs.refusal_line.Goals as goal

pub returns : goal.returns
returns c =
    let new = c.new-page.ensures in
    let line =
    c.text.ensures
    ∙ (refused_fronts c.args.why (omega arith) (omega arith) c.number.ensures c.place.ensures new.bytes_kept new.nothing_put
    c.put_refusal.ensures (omega arith)).bytes in
    delivers_as (ap (λ (t : List ℕ). gives t 0 0) line) c.write_out.ensures
