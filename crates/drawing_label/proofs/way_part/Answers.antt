-- `way_part` meets its contract: the first byte tells which word it must be. Assumes nothing.
use mathlib.Core.Path.{sym, ◌∙◌}
use borrow.Author.Rules.{rules}
use Rattle.ground.specs.Bytes.{bytes}
use Rattle.texts.specs.Telling.{Word}
use Rattle.texts.proofs.Telling.{through_took, through_stopped}
use Rattle.drawing_label.proofs.Words.{word_found, word_stuck}
use Rattle.drawing_label.proofs.Labels.{sparing_here, full_here}
use Rattle.drawing_label.proofs.way_part.Goals as goal

pub returns-in_err-next : goal.returns-in_err-next
returns-in_err-next c =
    let a = c.args in
    let stop = sparing_here a.text.now a.at (sym c.byte_at.ensures ∙ c.if-byte_at-eq115.true)
    (through_stopped (λ _. 0) (Word (bytes "sparing ")) a.text.now a.at
    (word_stuck (bytes "sparing ") a.text.now a.at tt c.follow.ensures c.in_err-next.was)) in
    search (rules, stop)

pub returns-then-byte_at-eq115 : goal.returns-then-byte_at-eq115
returns-then-byte_at-eq115 c =
    let a = c.args in
    sparing_here a.text.now a.at (sym c.byte_at.ensures ∙ c.if-byte_at-eq115.true)
    (through_took (λ _. 0) (Word (bytes "sparing ")) a.text.now a.at
    (word_found (bytes "sparing ") a.text.now a.at tt c.follow.ensures c.in_ok-next.was))

pub returns-in_err-next-2 : goal.returns-in_err-next-2
returns-in_err-next-2 c =
    let a = c.args in
    let stop = full_here a.text.now a.at (λ is. c.if-byte_at-eq115.false (c.byte_at.ensures ∙ is))
    (through_stopped (λ _. 1) (Word (bytes "full ")) a.text.now a.at
    (word_stuck (bytes "full ") a.text.now a.at tt c.follow-2.ensures c.in_err-next-2.was)) in
    search (rules, stop)

pub returns : goal.returns
returns c =
    let a = c.args in
    full_here a.text.now a.at (λ is. c.if-byte_at-eq115.false (c.byte_at.ensures ∙ is))
    (through_took (λ _. 1) (Word (bytes "full ")) a.text.now a.at
    (word_found (bytes "full ") a.text.now a.at tt c.follow-2.ensures c.in_ok-next-2.was))
