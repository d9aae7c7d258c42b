-- `write_built_in` meets its contract: what is written of a built-in model is its text. Assumes nothing.
use mathlib.Core.Path.{ap, ◌∙◌}
use Rattle.answers.proofs.Given.{delivers_as}
use Rattle.writing.specs.Calls.{reading_given}
use Rattle.built_ins.proofs.BuiltText.{given_built}
use Rattle.built_ins.proofs.write_built_in.Goals as goal

pub returns : goal.returns
returns c =
    delivers_as
    (ap reading_given c.built_in.ensures ∙ given_built c.args.number)
    c.write_reading.ensures
