-- `explore_letter` meets its contract: the answer is the step of the rule's machine at the candidate, and noting it brings the next candidate's
-- turn. Assumes nothing.
use borrow.Author.Rules.{rules}
use Rattle.machine.proofs.Breadth.{candidate_slot, notable, candidate_noted}
use Rattle.machine.proofs.explore.explore_letter.Goals as goal

pub note-requires : goal.note-requires
note-requires c = search (candidate_slot, notable, rules)

pub returns : goal.returns
returns c = search (candidate_noted, rules)
