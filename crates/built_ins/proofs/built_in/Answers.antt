-- `built_in` meets its contract: each number below 16 has its row, and no other has. Assumes nothing.
use mathlib.Core.Path.{◌∙◌}
use native.Mathlib.Omega.{arith}
use Rattle.built_ins.proofs.BuiltIns.{answered, out_of_range}
use Rattle.built_ins.proofs.built_in.Goals as goal

pub returns-then-number-gt15 : goal.returns-then-number-gt15
returns-then-number-gt15 c = out_of_range c.args.number c.if-number-gt15.true

pub returns : goal.returns
returns c = answered c.args.number c.built_model.result (omega arith) c.built_model.ensures
