-- `read_accepted` meets its contract: too little room refuses, and else the rows are filled. Assumes nothing.
use mathlib.Core.Path.{refl}
use Rattle.image.proofs.Readings.{read_short, read_whole}
use Rattle.image.proofs.reader.read_accepted.Goals as goal

pub returns-then-rows-count : goal.returns-then-rows-count
returns-then-rows-count c =
    let a = c.args in
    read_short a.image.now a.rows.now _ c.number_at-count.ensures.0 _ c.if-rows-count.true refl

pub returns : goal.returns
returns c =
    let a = c.args in
    read_whole a.image.now a.rows.now _ c.number_at-count.ensures.0 _ _ c.if-rows-count.false c.header.ensures c.fill_rows.ensures
