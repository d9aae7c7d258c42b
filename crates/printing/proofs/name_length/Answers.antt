-- `name_length` meets its contract: the first zero is where `position` finds one. Assumes nothing.
use Rattle.std.proofs.Common.{ℕ, Option, rules, ◌∙◌, ap, eqb, length}
use Rattle.std.proofs.lemmas.Iterator.{YieldsList-from_slice}
use Rattle.std.proofs.lemmas.Iterator.Search.{position_from_yields_List}
use Rattle.std.specs.Option.{unwrap_or}
use borrow.Author.Tests.{tests}
use Rattle.printing.proofs.Names.{first_zero}
use Rattle.printing.proofs.name_length.Goals as goal

pub returns : goal.returns
returns c =
    let name = c.args.name.now in
    let looked =
    position_from_yields_List (λ (b : ℕ). eqb b 0) _ _ c.position.result c.position.ensures.ran
    (YieldsList-from_slice name cc) (λ x b q k. search (rules, tests)) in
    c.unwrap_or.ensures ∙ ap (λ (o : Option ℕ). unwrap_or o (length name)) looked ∙ first_zero name
