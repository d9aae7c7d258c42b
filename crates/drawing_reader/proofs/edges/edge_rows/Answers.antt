use native.Mathlib.Omega.{arith}
use borrow.Author.Rules.{rules}
use Rattle.drawing_reader.proofs.EdgeRows.{rows_none, rows_done, rows_stop, rows_more}
use Rattle.drawing_reader.proofs.edges.edge_rows.Goals as goal

pub loop-state-init : goal.loop-state-init
loop-state-init c = (search rules, rows_none _ _ _ _)

pub returns-in_err-here : goal.returns-in_err-here
returns-in_err-here c =
    let inv = c.loop-state.invariant in
    let stop = rows_stop _ c.requires.0 _ _ _ _ _ _ inv.1
    (omega (arith, inv.0, c.loop-state-test.true)) _ _ c.edge_row.ensures c.in_err-here.was in
    search (rules, stop)

pub loop-state-preserved : goal.loop-state-preserved
loop-state-preserved c =
    let inv = c.loop-state.invariant in (
      inv.0,
      rows_more _ c.requires.0 _ _ _ _ _ _ inv.1
          (omega (arith, inv.0, c.loop-state-test.true)) _ _ c.edge_row.ensures
          c.in_ok-here.was,
    )

pub returns : goal.returns
returns c =
    let inv = c.loop-state.invariant in
    rows_done _ c.requires.0 _ _ _ _ _ _ inv.1 (omega (arith, inv.0, c.loop-state-test.false))
