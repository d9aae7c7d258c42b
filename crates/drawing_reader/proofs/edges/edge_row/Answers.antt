use Rattle.std.proofs.Common.{Err}
use mathlib.Core.Path.{subst}
use Rattle.texts.specs.Step.{Step}
use Rattle.drawing_reader.specs.inner.Rows.{ReadsRow}
use native.Mathlib.Omega.{arith}
use borrow.Author.Rules.{rules}
use Rattle.drawing_reader.proofs.EdgeRows.{row_none, row_done, row_stop, row_more}
use Rattle.drawing_reader.proofs.edges.edge_row.Goals as goal

pub loop-letter-init : goal.loop-letter-init
loop-letter-init c = row_none _ _ _ _ _

pub returns-in_err-past : goal.returns-in_err-past
returns-in_err-past c =
    let stop = row_stop _ c.requires.0 _ _ _ _ _ _ _ c.loop-letter.invariant c.loop-letter-test.true _ c.edge_line.ensures c.in_err-past.was in
    subst (λ (x : Step). ReadsRow c.args.shape c.args.state c.args.text.now c.args.start c.args.rows.now x c.loop-letter.rows)
    {x = Err c.in_err-past.field-0.0} (search rules) stop

pub loop-letter-preserved : goal.loop-letter-preserved
loop-letter-preserved c =
    row_more _ c.requires.0 _ _ _ _ _ _ _ c.loop-letter.invariant c.loop-letter-test.true _ c.edge_line.ensures
    c.in_ok-past.was (omega (arith, c.loop-letter.invariant.size, c.loop-letter-test.true, c.requires.1))

pub returns : goal.returns
returns c = search (row_done, rules)
