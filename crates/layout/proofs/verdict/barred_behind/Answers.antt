-- `barred_behind` meets its contract: no zero that is passed over is barred. Assumes nothing.
use Prim.Native.Nat.{◌-◌}
use mathlib.Core.Path.{refl, sym, ◌∙◌}
use lib.ListN.{length}
use Rattle.std.proofs.Common.{rules, tests}
use Rattle.std.proofs.lemmas.Iterator.{YieldsList-from_range}
use Rattle.std.proofs.lemmas.Iterator.Search.{find_from_yields_List}
use Rattle.std.proofs.lemmas.Iterator.Adapters.{option_map_id}
use Rattle.ground.proofs.Lowest.{find_lowest}
use Rattle.layout.proofs.Zeros.{passing, zeros_passed}
use Rattle.layout.proofs.verdict.barred_behind.Goals as goal

pub returns : goal.returns
returns c =
    let image = c.args.image.now in
    let from = c.args.from in
    sym (option_map_id _)
    ∙ find_from_yields_List (passing image) _ _ _ c.find.ensures.ran (YieldsList-from_range from (length image) (length image - from) refl refl)
    (λ x b q k. search (rules, tests))
    ∙ find_lowest (passing image) from (length image - from)
    ∙ zeros_passed image from c.requires.0 c.requires.1
