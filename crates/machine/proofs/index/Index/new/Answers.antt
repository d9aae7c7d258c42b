-- `new` meets its contract: arrays of zeros are an index of nothing. Assumes nothing.
use mathlib.Core.Path.{refl}
use Rattle.machine.proofs.Zeros.{new_index}
use Rattle.machine.proofs.index.Index.new.Goals as goal

pub returns : goal.returns
returns c = (new_index, refl)
