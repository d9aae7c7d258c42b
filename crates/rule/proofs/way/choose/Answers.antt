-- `choose` meets its contract: nothing where nothing is pending, else what the arm of the way finds is the way's pick. Assumes nothing.
use mathlib.Core.Path.{sym, ap, ◌∙◌}
use lib.ListN.{length}
use Rattle.rule.specs.declared.way.Way.{Way}
use Rattle.rule.specs.Rule.{taken, pick}
use Rattle.rule.specs.Situation.{serves}
use Rattle.rule.proofs.Choices.{choice_nothing, choice_pick}
use Rattle.rule.proofs.way.choose.Goals as goal

pub returns-then-at_least : goal.returns-then-at_least
returns-then-at_least c =
    let a = c.args in
    sym (choice_nothing a.way a.fences.now a.pending (sym c.at_least.ensures ∙ c.if-at_least.true))

pub returns-in-Sparing : goal.returns-in-Sparing
returns-in-Sparing c =
    let a = c.args in
    c.taken.ensures ∙ ap taken c.lowest_fence.ensures
    ∙ ap (λ (w : Way). pick w (serves a.fences.now a.pending) (length a.fences.now)) (sym c.in-Sparing.is)
    ∙ sym (choice_pick a.way a.fences.now a.pending (sym c.at_least.ensures ∙ c.if-at_least.false))

pub returns-in-Full : goal.returns-in-Full
returns-in-Full c =
    let a = c.args in
    c.last_fence.ensures
    ∙ ap (λ (w : Way). pick w (serves a.fences.now a.pending) (length a.fences.now)) (sym c.in-Full.is)
    ∙ sym (choice_pick a.way a.fences.now a.pending (sym c.at_least.ensures ∙ c.if-at_least.false))
