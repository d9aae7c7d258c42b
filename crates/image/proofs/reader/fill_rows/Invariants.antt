-- `fill_rows` meets its contract: after j turns the first j words are filled in. Assumes nothing.
use Rattle.image.specs.Image.{row_word}
use Rattle.image.specs.inner.Filling.{Front}
use Rattle.image.proofs.reader.fill_rows.Given as goal

abbrev pub invariant-loop-j : goal.invariant-loop-j
invariant-loop-j l = Front (row_word l.image) l.j l.rows
