-- `led_end` meets its contract: each part decides, and then the rest. Assumes nothing.
use native.Mathlib.Omega.{arith}
use borrow.Author.Rules.{rules}
use Rattle.drawing_edges.proofs.EdgeParts.{next_small, fence_small, led_stops, led_goes, led_label_stops, led_label_goes, marked_stops, marked_goes}
use Rattle.drawing_edges.proofs.EdgeParts.{last_stops, last_goes}
use Rattle.drawing_edges.proofs.led_end.Goals as goal

pub returns-in_err-label : goal.returns-in_err-label
returns-in_err-label c =
    let a = c.args in
    let stop = led_stops a.states a.marks a.letter c.requires.0 a.text.now a.at c.number.ensures c.in_err-label.was in
    search (rules, stop)

pub returns-in_err-mark_at : goal.returns-in_err-mark_at
returns-in_err-mark_at c =
    let a = c.args in
    let stop = led_goes a.states a.marks a.letter c.requires.0 a.text.now a.at c.number.ensures _ c.in_ok-label.was
    (led_label_stops a.marks a.letter c.in_ok-label.next c.label_part.ensures c.in_err-mark_at.was) in
    search (rules, stop)

pub returns-in_err-end : goal.returns-in_err-end
returns-in_err-end c =
    let a = c.args in
    let stop = led_goes a.states a.marks a.letter c.requires.0 a.text.now a.at c.number.ensures _ c.in_ok-label.was
    (led_label_goes a.marks a.letter c.in_ok-label.next c.label_part.ensures c.in_ok-mark_at.was
    (marked_stops a.marks c.in_ok-label.next c.mark.ensures c.in_err-end.was)) in
    search (rules, stop)

pub returns-in_err-past : goal.returns-in_err-past
returns-in_err-past c =
    let a = c.args in
    let stop = led_goes a.states a.marks a.letter c.requires.0 a.text.now a.at c.number.ensures _ c.in_ok-label.was
    (led_label_goes a.marks a.letter c.in_ok-label.next c.label_part.ensures c.in_ok-mark_at.was
    (marked_goes a.marks c.in_ok-label.next c.mark.ensures c.requires.1 c.in_ok-end.fence c.in_ok-end.was
    (last_stops _ tt c.follow.ensures _ c.in_err-past.was))) in
    search (rules, stop)

pub overflow_add-result : goal.overflow_add-result
overflow_add-result c =
    let a = c.args in
    let next = next_small a.states 0 0 c.requires.0 a.text.now a.at c.number.ensures c.in_ok-label.was in
    let fence = fence_small a.marks 0 c.mark.ensures c.requires.1 c.in_ok-end.was in
    omega (arith, next, fence)

pub returns : goal.returns
returns c =
    let a = c.args in
    led_goes a.states a.marks a.letter c.requires.0 a.text.now a.at c.number.ensures _ c.in_ok-label.was
    (led_label_goes a.marks a.letter c.in_ok-label.next c.label_part.ensures c.in_ok-mark_at.was
    (marked_goes a.marks c.in_ok-label.next c.mark.ensures c.requires.1 c.in_ok-end.fence c.in_ok-end.was
    (last_goes _ tt c.follow.ensures _ c.in_ok-past.was)))
