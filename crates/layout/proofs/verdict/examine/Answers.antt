-- `examine` meets its contract: an image within the limit has the verdict of its lowest wrong block and, where there is none, of its bytes.
-- Assumes nothing.
use borrow.Author.Rules.{rules}
use Rattle.layout.proofs.Verdicts.{over_limit, by_blocks}
use Rattle.layout.proofs.verdict.examine.Goals as goal

pub returns-then-image-gt-LIMIT : goal.returns-then-image-gt-LIMIT
returns-then-image-gt-LIMIT c = search (over_limit, rules)

pub returns-in-Some : goal.returns-in-Some
returns-in-Some c = search (by_blocks, rules)

pub returns-in-None : goal.returns-in-None
returns-in-None c = search (by_blocks, rules)
