-- `write` meets its contract: rows that do not fit are refused; those that fit describe the states. Assumes nothing.
use borrow.Author.Rules.{rules}
use Rattle.machine.proofs.Stages.{sorted_roomless}
use Rattle.machine.proofs.Finish.{making}
use Rattle.machine.proofs.write.Goals as goal

pub returns-then-rows-states : goal.returns-then-rows-states
returns-then-rows-states c = search (sorted_roomless, rules)

pub returns : goal.returns
returns c = search (making, rules)
