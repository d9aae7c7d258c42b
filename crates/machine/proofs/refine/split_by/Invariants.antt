-- `split_by` meets its contract: the situations below the one at hand are numbered by their keys, which are the pairs of the index. Assumes
-- nothing.
use Rattle.machine.specs.inner.Words.{key}
use Rattle.machine.proofs.Naming.{Splitting}
use Rattle.machine.proofs.refine.split_by.Given as goal

abbrev pub invariant-loop-i : goal.invariant-loop-i
invariant-loop-i l =
    Splitting (key l.table l.classes l.a) l.k l.finer l.index l.i
