use Prim.Native.Nat.{ℕ, ◌+◌}
use mathlib.Core.Path.{◌≡◌, sym, ap, ◌∙◌}
use native.Mathlib.Omega.{arith}
use lib.ListN.{drop}
use Rattle.ground.specs.Bytes.{at}
use Rattle.std.proofs.Common.{Err}
use Rattle.texts.specs.NumberPart.{with_digit, part_shift, number_rest}
use Rattle.texts.proofs.NumberPart.{goes_below}
use Rattle.texts.proofs.NumberSteps.{rest_over, rest_ends, rest_not, rest_more}
use Rattle.texts.proofs.number_rest.Goals as goal

pub returns-then-b-end : goal.returns-then-b-end
returns-then-b-end c =
    let l = c.loop-here in
    sym (l.invariant.2 ∙ rest_ends _ _ _ _ _ c.loop-here-test.true c.if-b-end.true)

pub returns-then-not-goes_on : goal.returns-then-not-goes_on
returns-then-not-goes_on c =
    let l = c.loop-here in
    let stops = sym c.goes_on.ensures ∙ c.if-not-goes_on.true in
    sym (l.invariant.2 ∙ rest_not _ _ _ _ _ c.loop-here-test.true c.if-b-end.false stops)

pub loop-here-preserved : goal.loop-here-preserved
loop-here-preserved c =
    let l = c.loop-here in
    let a = c.args in
    let b = at a.text.now l.here in
    let on = sym c.goes_on.ensures ∙ c.if-not-goes_on.false in
    let value : c.with_digit-value.result ≡ with_digit l.value b = c.with_digit-value.ensures in
    let here = l.here + 1 in (
      rw value (goes_below a.bound l.value b on),
      omega arith,
      l.invariant.2
          ∙ rest_more _ _ _ _ _ c.loop-here-test.true c.if-b-end.false on
          ∙ ap (λ (v : ℕ). part_shift here (number_rest a.bound a.end v (drop here a.text.now))) (sym value),
    )

pub returns : goal.returns
returns c =
    let l = c.loop-here in
    ap Err (omega (arith, c.max.ensures, l.auto.here, l.invariant.1, c.loop-here-test.false))
    ∙ sym (l.invariant.2 ∙ rest_over _ _ _ _ _ c.loop-here-test.false)
