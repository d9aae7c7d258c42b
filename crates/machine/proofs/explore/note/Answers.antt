-- `note` meets its contract: an answer that is taken is stored, and a refusal is the word 0. Assumes nothing.
use borrow.Author.Rules.{rules}
use Rattle.machine.specs.inner.Explore.{passed}
use Rattle.machine.proofs.explore.note.Goals as goal

pub returns-in-Some : goal.returns-in-Some
returns-in-Some c = search (passed, rules)
