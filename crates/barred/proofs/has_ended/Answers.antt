-- `has_ended` meets its contract: any of the first k bytes is a zero. Assumes nothing.
use mathlib.Core.Path.{refl, ◌∙◌}
use Rattle.std.proofs.Common.{rules, tests, arith, ◌+◌, ℕ, eqb}
use Rattle.std.proofs.lemmas.Iterator.{YieldsList-from_range}
use Rattle.std.proofs.lemmas.Iterator.Search.{any_from_yields_List}
use Rattle.ground.specs.Bytes.{at}
use Rattle.barred.proofs.Names.{ended_any}
use Rattle.barred.proofs.has_ended.Goals as goal

pub returns : goal.returns
returns c =
    let a = c.args in
    any_from_yields_List (λ (j : ℕ). eqb (at a.image.now (a.from + j)) 0) _ _ _ c.any.ensures.ran (YieldsList-from_range 0 a.k a.k refl (omega arith))
    (λ x b q k. search (rules, tests))
    ∙ ended_any a.image.now a.from a.k
