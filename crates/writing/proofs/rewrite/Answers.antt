-- `rewrite` meets its contract: what is written of what was read is the text itself. Assumes nothing.
use mathlib.Core.Path.{ap, ◌∙◌}
use Rattle.answers.proofs.Given.{delivers_as}
use Rattle.writing.specs.Calls.{reading_given}
use Rattle.writing.proofs.WrittenBack.{given_back}
use Rattle.writing.proofs.rewrite.Goals as goal

pub returns : goal.returns
returns c =
    let text = c.args.text.now in
    delivers_as (ap reading_given c.read.ensures.equation ∙ given_back text) c.write_reading.ensures
