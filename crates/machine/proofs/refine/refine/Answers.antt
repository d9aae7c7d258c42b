use borrow.Author.Rules.{rules}
use Rattle.machine.proofs.Rounds.{refining_end}
use Rattle.machine.proofs.refine.refine.Goals as goal

pub returns-then-more-count : goal.returns-then-more-count
returns-then-more-count c = search (refining_end, c.in_ok-more.ensures, rules)
