-- `store` meets its contract: the word is that of the output and of the place that the next situation was given. Assumes nothing.
use mathlib.Core.Path.{refl}
use Rattle.machine.proofs.explore.store.Goals as goal

pub returns : goal.returns
returns c = record { place = _; placed = c.in_ok-q.ensures; word = refl }
