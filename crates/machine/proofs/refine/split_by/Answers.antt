use borrow.Author.Rules.{rules}
use Rattle.machine.proofs.Naming.{splitting_start, splitting_next, splitting_crowded}
use Rattle.machine.proofs.refine.split_by.Goals as goal

pub loop-i-init : goal.loop-i-init
loop-i-init c = search (splitting_start, rules)

pub returns-then-q-eq255 : goal.returns-then-q-eq255
returns-then-q-eq255 c = search (splitting_crowded, c.in_ok-q.ensures, rules)

pub loop-i-preserved : goal.loop-i-preserved
loop-i-preserved c = search (splitting_next, c.in_ok-q.ensures, rules)
