-- `mark` meets its contract: one law for each way that it returns. Assumes nothing.
use native.Mathlib.Omega.{arith}
use borrow.Author.Rules.{rules}
use Rattle.drawing_edges.proofs.Marks.{mark_over, mark_dash, mark_fence, mark_nothing, mark_other}
use Rattle.drawing_edges.proofs.mark.Goals as goal

pub returns-in_err-b : goal.returns-in_err-b
returns-in_err-b c =
    let stop = mark_over {marks = c.args.marks} {t = c.args.text.now} {at = c.args.at} (search rules) in
    search (rules, stop)

pub returns-then-b-eq45 : goal.returns-then-b-eq45
returns-then-b-eq45 c = mark_dash (search rules) (search rules)

pub returns-in_err-n : goal.returns-in_err-n
returns-in_err-n c =
    let stop = mark_nothing {marks = c.args.marks} {t = c.args.text.now} {at = c.args.at} c.requires (search rules) (search rules) (search rules) in
    search (rules, stop)

pub returns-then-n-marks : goal.returns-then-n-marks
returns-then-n-marks c = mark_fence c.requires (search rules) (search rules) (omega arith)

pub returns : goal.returns
returns c = mark_other c.requires (search rules) (search rules) {n = c.in_ok-n.n} (search rules) (search rules)
