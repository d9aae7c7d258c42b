use mathlib.Core.Path.{◌∙◌}
use native.Mathlib.Omega.{arith}
use Rattle.models.proofs.Taken.{levels_read}
use Rattle.models.proofs.reader.table_in.Goals as goal

pub returns : goal.returns
returns c =
    let l = c.loop-i in
    c.of_levels.ensures
    ∙ levels_read c.args.text.now _ (λ j lj. l.invariant.1 j (omega arith))
