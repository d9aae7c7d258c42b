-- `label_places` meets its contract: each part decides, and then the rest. Assumes nothing.
use borrow.Author.Rules.{rules}
use Rattle.drawing_label.proofs.Parts.{opening_stops, opening_goes, upstream_stops, upstream_goes, target_stops, named_goes}
use Rattle.drawing_label.proofs.Parts.{way_stops, way_goes, ups_stops, ups_goes, targets_stops, targets_goes, end_stops, end_goes}
use Rattle.drawing_label.proofs.label_places.Goals as goal

pub returns-in_err-upstream : goal.returns-in_err-upstream
returns-in_err-upstream c =
    let stop = opening_stops c.follow.ensures c.in_err-upstream.was in
    search (rules, stop)

pub returns-in_err-target : goal.returns-in_err-target
returns-in_err-target c =
    let stop = opening_goes c.follow.ensures c.in_ok-upstream.was (upstream_stops c.name.ensures c.in_err-target.was) in
    search (rules, stop)

pub returns-in_err-way_at : goal.returns-in_err-way_at
returns-in_err-way_at c =
    let stop = opening_goes c.follow.ensures c.in_ok-upstream.was
    (upstream_goes c.name.ensures c.in_ok-target.was (target_stops c.name-2.ensures _ c.in_err-way_at.was)) in
    search (rules, stop)

pub returns-in_err-ups_at : goal.returns-in_err-ups_at
returns-in_err-ups_at c =
    let stop = named_goes c.follow.ensures c.in_ok-upstream.was c.name.ensures c.in_ok-target.was c.name-2.ensures c.in_ok-way_at.was
    (way_stops _ _ c.way_part.ensures c.in_err-ups_at.was) in
    search (rules, stop)

pub returns-in_err-targets_at : goal.returns-in_err-targets_at
returns-in_err-targets_at c =
    let stop = named_goes c.follow.ensures c.in_ok-upstream.was c.name.ensures c.in_ok-target.was c.name-2.ensures c.in_ok-way_at.was
    (way_goes _ _ c.way_part.ensures c.in_ok-ups_at.was (ups_stops _ _ _ c.number.ensures c.in_err-targets_at.was)) in
    search (rules, stop)

pub returns-in_err-end : goal.returns-in_err-end
returns-in_err-end c =
    let stop = named_goes c.follow.ensures c.in_ok-upstream.was c.name.ensures c.in_ok-target.was c.name-2.ensures c.in_ok-way_at.was
    (way_goes _ _ c.way_part.ensures c.in_ok-ups_at.was (ups_goes _ _ _ c.number.ensures c.in_ok-targets_at.was
    (targets_stops _ _ _ _ c.number-2.ensures c.in_err-end.was))) in
    search (rules, stop)

pub returns-in_err-next : goal.returns-in_err-next
returns-in_err-next c =
    let stop = named_goes c.follow.ensures c.in_ok-upstream.was c.name.ensures c.in_ok-target.was c.name-2.ensures c.in_ok-way_at.was
    (way_goes _ _ c.way_part.ensures c.in_ok-ups_at.was (ups_goes _ _ _ c.number.ensures c.in_ok-targets_at.was
    (targets_goes _ _ _ _ c.number-2.ensures c.in_ok-end.was (end_stops _ _ _ _ _ c.follow-2.ensures c.in_err-next.was)))) in
    search (rules, stop)

pub returns : goal.returns
returns c =
    named_goes c.follow.ensures c.in_ok-upstream.was c.name.ensures c.in_ok-target.was c.name-2.ensures c.in_ok-way_at.was
    (way_goes _ _ c.way_part.ensures c.in_ok-ups_at.was (ups_goes _ _ _ c.number.ensures c.in_ok-targets_at.was
    (targets_goes _ _ _ _ c.number-2.ensures c.in_ok-end.was (end_goes _ _ _ _ _ c.follow-2.ensures c.in_ok-next.was))))
