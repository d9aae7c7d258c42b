use borrow.Author.Rules.{rules}
use Rattle.machine.proofs.Rounds.{going_next, going_crowd}
use Rattle.machine.proofs.refine.split_all.Goals as goal

pub returns-in_err-count : goal.returns-in_err-count
returns-in_err-count c = rw c.from_residual.ensures (going_crowd c.loop-a.invariant (search rules) c.in_err-count.ensures)

pub loop-a-preserved : goal.loop-a-preserved
loop-a-preserved c = search (going_next, c.in_ok-count.ensures, rules)
