-- `generate` meets its contract: it is refused as its opening is. Assumes nothing.
use borrow.Author.Rules.{rules}
use Rattle.shims.proofs.Calls.{given_refused}
use Rattle.generation.specs.Generating.{MachineGiven}
use Rattle.generation.proofs.generate.Goals as goal

pub returns-in_err-read_both : goal.returns-in_err-read_both
returns-in_err-read_both c = given_refused MachineGiven {why = c.in_err-read_both.field-0.0} (search rules) (search rules)
