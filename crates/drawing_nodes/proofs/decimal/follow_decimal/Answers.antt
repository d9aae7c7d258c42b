-- `follow_decimal` meets its contract: the digits are all that is on the page, and the word is followed behind them. Assumes nothing.
use Rattle.std.proofs.Common.{Err}
use Prim.Native.Nat.{ℕ, ◌<◌, ◌^◌}
use mathlib.Core.Path.{◌≡◌, refl, sym, ap, ◌∙◌}
use mathlib.Core.List.{List}
use borrow.Author.Rules.{rules}
use lib.ListN.{take, replicate}
use native.Mathlib.Nat.{lt_trans}
use native.Mathlib.Omega.{arith}
use lib.Dec.{lit<}
use Rattle.texts.specs.Pattern.{follow_at}
use Rattle.texts.proofs.Language.{step_stuck, step_next}
use Rattle.printing.specs.Decimal.{decimal}
use Rattle.printing.specs.Printing.{Prints}
use Rattle.printing.proofs.Decimals.{length_digits}
use Rattle.printing.proofs.Putting.{prints_put, put_fronts}
use Rattle.drawing_nodes.proofs.Following.{follow_then}
use Rattle.drawing_nodes.proofs.decimal.follow_decimal.Goals as goal

-- the digits are all that is on the page
digits : {bytes after : List ℕ} {at n : ℕ} (number : ℕ) → number < 2 ^ 64 → bytes ≡ replicate 20 0 → at ≡ 0
    → Prints bytes after at n (decimal number) → take n after ≡ decimal number
digits number small same none p =
    (put_fronts same none (prints_put p) (omega (arith, length_digits 19 number (lt_trans small (lit< tt))))).bytes

pub returns-in_err-past : goal.returns-in_err-past
returns-in_err-past c =
    let a = c.args in
    let new = c.new-page.ensures in
    let f = c.text.ensures ∙ digits a.number (omega (arith, c.ranges.number)) new.bytes_kept new.nothing_put c.put_decimal.ensures.prints in
    let stop = step_stuck Err (follow_at a.after.now a.text.now)
    (c.follow.ensures ∙ ap (λ (w : List ℕ). follow_at w a.text.now a.at) f) c.in_err-past.was refl
    ∙ sym (follow_then (decimal a.number) a.after.now a.text.now a.at) in
    search (rules, stop)

pub returns : goal.returns
returns c =
    let a = c.args in
    let new = c.new-page.ensures in
    let f = c.text.ensures ∙ digits a.number (omega (arith, c.ranges.number)) new.bytes_kept new.nothing_put c.put_decimal.ensures.prints in
    step_next Err (follow_at a.after.now a.text.now)
    (c.follow.ensures ∙ ap (λ (w : List ℕ). follow_at w a.text.now a.at) f) c.in_ok-past.was c.follow-2.ensures
    ∙ sym (follow_then (decimal a.number) a.after.now a.text.now a.at)
