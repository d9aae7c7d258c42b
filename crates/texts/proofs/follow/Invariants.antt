-- `follow` meets its contract: after some bytes of the pattern the whole is what follows from here. Assumes nothing.
use mathlib.Core.Path.{◌≡◌}
use lib.ListN.{drop}
use Rattle.texts.specs.Pattern.{follow_at}
use Rattle.texts.proofs.follow.Given as goal

abbrev pub invariant-loop-p : goal.invariant-loop-p
invariant-loop-p l = follow_at l.pattern l.text l.at ≡ follow_at (drop l.p-index l.pattern) l.text l.here
