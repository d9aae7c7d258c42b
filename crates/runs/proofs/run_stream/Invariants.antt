-- `run_stream` meets its contract: at each turn what is laid and what is left to run are the whole run. Assumes nothing.
use Rattle.runs.proofs.Running.{Running}
use Rattle.runs.proofs.run_stream.Given as goal

abbrev pub invariant-loop-at : goal.invariant-loop-at
invariant-loop-at l =
    Running l.sides l.stream l.situation l.written l.at l.buffer
