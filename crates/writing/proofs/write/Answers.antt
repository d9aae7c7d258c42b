-- `write` meets its contract: no model's text is too long for the writer's own buffer. Assumes nothing.
use Prim.Native.Nat.{ℕ}
use mathlib.Core.Path.{ap, ◌∙◌}
use mathlib.Core.List.{List}
use native.Mathlib.Omega.{arith}
use Rattle.answers.specs.Given.{gives}
use Rattle.answers.proofs.Given.{delivers_as}
use Rattle.printing.proofs.Putting.{put_fronts}
use Rattle.writing.proofs.Short.{held_short}
use Rattle.writing.proofs.write.Goals as goal

pub returns : goal.returns
returns c =
    let new = c.new-page.ensures in
    let text =
    c.text.ensures
    ∙ (put_fronts new.bytes_kept new.nothing_put c.put_model.ensures (omega (arith, held_short c.args.model _ c.well_formed.0))).bytes in
    delivers_as (ap (λ (t : List ℕ). gives t 0 0) text) c.write_out.ensures
