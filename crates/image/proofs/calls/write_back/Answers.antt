-- `write_back` meets its contract: the words that were read are the image again. Assumes nothing.
use Rattle.answers.specs.Given.{gives}
use Rattle.image.specs.Calls.{written_back}
use Rattle.image.proofs.WrittenBack.{given_refused, back_accepted}
use borrow.Author.Rules.{rules}
use Rattle.image.proofs.calls.write_back.Goals as goal

pub returns-in_err-header : goal.returns-in_err-header
unfolding written_back
returns-in_err-header c =
    let a = c.args in
    given_refused a.image.now (λ i. (c.type_inv.image i).fits) _ _ c.read.ensures (gives a.image.now 0 0) c.in_err-header.field-0.0 a.out.now
    c.from_residual.result (search rules) (search rules)

pub returns : goal.returns
returns c =
    let a = c.args in
    back_accepted a.image.now (λ i. (c.type_inv.image i).fits) _ _ c.read.ensures
    c.in_ok-header.header (search rules) _ a.out.now _ _ c.wide-n.ensures.0 c.write.ensures
