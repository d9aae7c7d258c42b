-- `lowest_fence` meets its contract: the first fence that is found to do is the lowest. Assumes nothing.
use mathlib.Core.Path.{refl, sym, ◌∙◌}
use lib.ListN.{length}
use native.Mathlib.Omega.{arith}
use Rattle.std.proofs.Common.{rules, tests}
use Rattle.std.proofs.lemmas.Iterator.{YieldsList-from_range}
use Rattle.std.proofs.lemmas.Iterator.Search.{find_from_yields_List}
use Rattle.std.proofs.lemmas.Iterator.Adapters.{option_map_id}
use Rattle.ground.proofs.Lowest.{find_lowest}
use Rattle.rule.specs.Situation.{serves}
use Rattle.rule.proofs.way.lowest_fence.Goals as goal

pub returns : goal.returns
returns c =
    let a = c.args in
    let n = length a.fences.now in
    sym (option_map_id _)
    ∙ find_from_yields_List (serves a.fences.now a.pending) _ _ _ c.find.ensures.ran (YieldsList-from_range 0 n n refl (omega arith))
    (λ x b q k. search (rules, tests))
    ∙ find_lowest (serves a.fences.now a.pending) 0 n
