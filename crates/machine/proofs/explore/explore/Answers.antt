-- `explore` meets its contract: what `begin` puts into a new index is the fresh situation alone, and `explore_all` goes on from there. Assumes
-- nothing.
use mathlib.Core.Path.{refl}
use borrow.Author.Rules.{rules}
use Rattle.machine.proofs.Breadth.{explored_start}
use Rattle.machine.proofs.explore.explore.Goals as goal

pub explore_all-requires : goal.explore_all-requires
explore_all-requires c = record { explored = explored_start (search rules) (search rules) refl; few = search rules }
