-- `undraw` meets its contract: what was read is a drawing and its machine, or the longest beginning of one. Assumes nothing.
use Rattle.std.proofs.Common.{Err}
use mathlib.Core.Path.{sym, ap, subst, ◌∙◌}
use borrow.Author.Rules.{rules}
use Rattle.answers.specs.Given.{Answers, gives, refuses}
use Rattle.answers.specs.Answer.{Answer}
use Rattle.answers.proofs.Given.{delivers_refusal}
use Rattle.drawing_reader.specs.Undrawing.{Undrawn, over, departs, undrawn}
use Rattle.drawing_reader.proofs.Reading.{refused_at, read_stuck, read_passed, read_whole}
use Rattle.drawing_reader.proofs.undraw.Goals as goal

pub returns-then-text-gt-LIMIT : goal.returns-then-text-gt-LIMIT
returns-then-text-gt-LIMIT c = record { given = refuses _; right = over (search rules); delivered = delivers_refusal _ }

pub returns-in_err-drawing : goal.returns-in_err-drawing
returns-in_err-drawing c =
    let t = c.args.text.now in
    let out = c.args.out.now in
    let at = refused_at c.map_err.ensures.cases c.in_err-drawing.was in
    let no = read_stuck t _ c.read.ensures at.1 in
    subst (λ (a : Answer). Answers (Undrawn t) out a out) {y = c.from_residual.result} (ap Err (sym at.2) ∙ search rules)
    record { given = refuses _; right = departs (search rules) no.0 no.1; delivered = delivers_refusal _ }

pub returns-then-end-text : goal.returns-then-end-text
returns-then-end-text c =
    let no = read_passed c.args.text.now _ c.read.ensures c.in_ok-drawing.drawing (search rules) c.if-end-text.true in
    record { given = refuses _; right = departs (search rules) no.0 no.1; delivered = delivers_refusal _ }

pub returns : goal.returns
returns c =
    let is = read_whole c.args.text.now _ c.read.ensures c.in_ok-drawing.drawing (search rules) c.if-end-text.false c.wide-n.ensures.0 in
    record { given = gives _ 0 0; right = undrawn (search rules) is.0 is.1; delivered = c.write.ensures }
