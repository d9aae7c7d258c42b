-- `kept` meets its contract: the chain looks at each byte from the place on. Assumes nothing.
use Rattle.std.proofs.Common.{refl, ap, rules, ◌∙◌}
use Rattle.std.proofs.lemmas.List.Recursion.{and_is}
use Rattle.std.specs.Prelude.{◌==◌}
use Rattle.cases.specs.Buffer.{untouched}
use Rattle.cases.proofs.Buffers.{untouched_step}
use Rattle.cases.proofs.kept.Goals as goal

pub returns : goal.returns
returns c =
    let l = c.behind.result.now in
    and_is untouched (λ b. b == 35) refl untouched_step l 0 _ (search rules) (search rules) ∙ ap untouched c.behind.ensures
