-- `split_all` meets its contract: the letters below the one at hand have split the classes; each turn splits by one more. Assumes nothing.
use Rattle.machine.proofs.Rounds.{Going}
use Rattle.machine.proofs.refine.split_all.Given as goal

abbrev pub invariant-loop-a : goal.invariant-loop-a
invariant-loop-a l =
    Going l.letters l.table l.k l.began l.classes l.finer l.count l.a
