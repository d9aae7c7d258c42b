-- `draw` meets its contract: what was read is the machine of the image. Assumes nothing.
use borrow.Author.Rules.{rules}
use Rattle.drawing.proofs.Drawn.{drawn_refused, machine_read, drawn_accepted}
use Rattle.drawing.proofs.draw.Goals as goal

pub write_drawing-requires : goal.write_drawing-requires
write_drawing-requires c =
    machine_read c.args.image.now (λ i. (c.type_inv.image i).fits) _ _
    c.read.ensures c.in_ok-header.header (search rules) _ c.wide-n.ensures.0

pub returns-in_err-header : goal.returns-in_err-header
returns-in_err-header c =
    let a = c.args in
    drawn_refused a.image.now (λ i. (c.type_inv.image i).fits) _ _ c.read.ensures c.in_err-header.field-0.0 a.out.now
    c.from_residual.result (search rules) (search rules)

pub returns : goal.returns
returns c =
    let a = c.args in
    drawn_accepted a.image.now (λ i. (c.type_inv.image i).fits) _ _ c.read.ensures
    c.in_ok-header.header (search rules) _ c.wide-n.ensures.0 a.out.now _ _ c.write_drawing.ensures
