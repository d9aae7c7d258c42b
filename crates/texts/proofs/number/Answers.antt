-- `number` meets its contract: the first digit by the tests that led there, and what is left by `number_rest`. Assumes nothing.
use Prim.Native.Nat.{ℕ, ◌+◌, ◌-◌}
use mathlib.Core.Path.{sym, ap₂, ◌∙◌}
use native.Mathlib.Omega.{arith}
use borrow.Author.Tests.{lt-ltb, le-ltb}
use lib.ListN.{drop}
use Rattle.ground.specs.Bytes.{at}
use Rattle.texts.specs.NumberPart.{part_shift, number_rest}
use Rattle.texts.proofs.NumberSteps.{number_over, number_not, number_first}
use Rattle.texts.proofs.number.Goals.{then-text-at-via-then-text-at, then-text-at-via-else-text-at+then-not-is_digit}
use Rattle.texts.proofs.number.Goals as goal

pub returns-then-text-at : goal.returns-then-text-at
returns-then-text-at c =
    let a = c.args in
    elim c.then-text-at.branch [
      | then-text-at-via-then-text-at w ↦ sym (number_over _ _ _ _ w.if-text-at.true)
      | then-text-at-via-else-text-at+then-not-is_digit w ↦
          let other = sym w.is_digit.ensures ∙ w.if-not-is_digit.true in
          sym (number_not a.bound a.end a.text.now a.at w.if-text-at.false (rw other))
    ]

pub returns-then-limit-value : goal.returns-then-limit-value
returns-then-limit-value c =
    let a = c.args in
    let digit = sym c.is_digit.ensures ∙ c.if-not-is_digit.false in
    let value = c.from-value.ensures in
    let limit = c.from-limit.ensures in
    let high = le-ltb (at a.text.now a.at - 48) a.bound (omega (arith, c.if-limit-value.true, value, limit)) in
    sym (number_not _ _ _ _ c.if-text-at.false (rw (digit, high)))

pub returns : goal.returns
returns c =
    let a = c.args in
    let digit = sym c.is_digit.ensures ∙ c.if-not-is_digit.false in
    let value = c.from-value.ensures in
    let limit = c.from-limit.ensures in
    let low = lt-ltb (at a.text.now a.at - 48) a.bound (omega (arith, c.if-limit-value.false, value, limit)) in
    c.number_rest.ensures
    ∙ ap₂ (λ (l v : ℕ). part_shift (a.at + 1) (number_rest l a.end v (drop (a.at + 1) a.text.now))) limit value
    ∙ sym (number_first _ _ _ _ c.if-text-at.false (rw (digit, low)))
