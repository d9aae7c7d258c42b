-- `refused_end` meets its contract: each word decides, and then the rest. Assumes nothing.
use borrow.Author.Rules.{rules}
use Rattle.drawing_edges.proofs.EdgeParts.{refused_stops, refused_goes, refused_label_stops, refused_label_goes, last_stops, last_goes}
use Rattle.drawing_edges.proofs.refused_end.Goals as goal

pub returns-in_err-label : goal.returns-in_err-label
returns-in_err-label c =
    let stop = refused_stops c.args.letter {t = c.args.text.now} {at = c.args.at} c.follow.ensures c.in_err-label.was in
    search (rules, stop)

pub returns-in_err-mark_at : goal.returns-in_err-mark_at
returns-in_err-mark_at c =
    let l = c.args.letter in
    let stop = refused_goes l {t = c.args.text.now} {at = c.args.at} c.follow.ensures c.in_ok-label.was (refused_label_stops l c.label_part.ensures c.in_err-mark_at.was) in
    search (rules, stop)

pub returns-in_err-past : goal.returns-in_err-past
returns-in_err-past c =
    let l = c.args.letter in
    let stop = refused_goes l {t = c.args.text.now} {at = c.args.at} c.follow.ensures c.in_ok-label.was (refused_label_goes l c.label_part.ensures c.in_ok-mark_at.was
    (last_stops _ tt c.follow-2.ensures 65024 c.in_err-past.was)) in
    search (rules, stop)

pub returns : goal.returns
returns c =
    let l = c.args.letter in
    refused_goes l c.follow.ensures c.in_ok-label.was (refused_label_goes l c.label_part.ensures c.in_ok-mark_at.was
    (last_goes _ tt c.follow-2.ensures 65024 c.in_ok-past.was))
