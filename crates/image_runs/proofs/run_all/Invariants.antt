-- `run_all` meets its contract: after i turns the whole run is what was put out so far and the run of the rest. Assumes nothing.
use Rattle.image_runs.specs.inner.Walking.{Going}
use Rattle.image_runs.proofs.run_all.Given as goal

abbrev pub invariant-loop-i : goal.invariant-loop-i
invariant-loop-i l = Going l.image l.start l.stream l.p l.room l.i
