-- `five_text` meets its contract: numbers of 64 bits have at most twenty digits, so that the line has room for five. Assumes nothing.
use Rattle.std.proofs.Common.{ℕ, List, ap, arith, ◌∙◌}
use Rattle.answers.specs.Given.{gives}
use Rattle.answers.proofs.Given.{delivers_as}
use Rattle.printing.proofs.Putting.{put_fronts}
use Rattle.cases.proofs.Printed.{five-length}
use Rattle.cases.proofs.five_text.Goals as goal

pub returns : goal.returns
returns c =
    let a = c.args in
    let f = c.ranges in
    let few =
    five-length a.a a.b a.c a.d a.e
    (omega (arith, f.a)) (omega (arith, f.b)) (omega (arith, f.c)) (omega (arith, f.d)) (omega (arith, f.e)) in
    let new = c.new-page.ensures in
    let text = c.text.ensures ∙ (put_fronts new.bytes_kept new.nothing_put c.put_five.ensures (omega (arith, few))).bytes in
    delivers_as (ap (λ (t : List ℕ). gives t 0 0) text) c.write_out.ensures
