use mathlib.Core.Path.{sym, ◌∙◌}
use Rattle.texts.proofs.Steps.{follow_over, follow_not, follow_more, follow_done}
use Rattle.texts.proofs.follow.Goals.{then-text-here-via-then-text-here, then-text-here-via-else-text-here+then-not-fits_pattern}
use Rattle.texts.proofs.follow.Goals as goal

pub returns-then-text-here : goal.returns-then-text-here
returns-then-text-here c =
    let l = c.loop-p in
    elim c.then-text-here.branch [
      | then-text-here-via-then-text-here w ↦ sym (l.invariant ∙ follow_over _ _ _ _ c.loop-p-test.true w.if-text-here.true)
      | then-text-here-via-else-text-here+then-not-fits_pattern w ↦
          sym
          (l.invariant
          ∙ follow_not _ _ _ _ c.loop-p-test.true w.if-text-here.false (sym w.fits_pattern.ensures ∙ w.if-not-fits_pattern.true))
    ]

pub loop-p-preserved : goal.loop-p-preserved
loop-p-preserved c =
    let fit = sym c.fits_pattern.ensures ∙ c.if-not-fits_pattern.false in
    c.loop-p.invariant ∙ follow_more _ _ _ _ c.loop-p-test.true c.if-text-here.false fit

pub returns : goal.returns
returns c = sym (c.loop-p.invariant ∙ follow_done _ _ _ _ c.loop-p-test.false)
