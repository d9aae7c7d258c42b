-- `barred_in_front` meets its contract: the first byte that is found barred is the lowest. Assumes nothing.
use mathlib.Core.Path.{refl, sym, ◌∙◌}
use native.Mathlib.Omega.{arith}
use Rattle.std.proofs.Common.{rules, tests}
use Rattle.std.proofs.lemmas.Iterator.{YieldsList-from_range}
use Rattle.std.proofs.lemmas.Iterator.Search.{find_from_yields_List}
use Rattle.std.proofs.lemmas.Iterator.Adapters.{option_map_id}
use Rattle.ground.proofs.Lowest.{find_lowest}
use Rattle.barred.specs.Barred.{barred}
use Rattle.layout.proofs.verdict.barred_in_front.Goals as goal

pub returns : goal.returns
returns c =
    let a = c.args in
    sym (option_map_id _)
    ∙ find_from_yields_List (barred a.image.now) _ _ _ c.find.ensures.ran (YieldsList-from_range 0 a.count a.count refl (omega arith))
    (λ x b q k. search (rules, tests))
    ∙ find_lowest (barred a.image.now) 0 a.count
