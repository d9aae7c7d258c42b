-- `put_name` meets its contract: the bytes before the first zero are the name. Assumes nothing.
use Prim.Native.Nat.{ℕ}
use mathlib.Core.Path.{sym, ap, ◌∙◌}
use native.Mathlib.Omega.{arith}
use lib.ListN.{take}
use lib.Seq.{length-take-le}
use Rattle.printing.proofs.Copying.{prints_is}
use Rattle.printing.proofs.Names.{unfilled_front, unfilled_short}
use Rattle.printing.proofs.Page.put_name.Goals as goal

pub slice_bounds-put-end : goal.slice_bounds-put-end
slice_bounds-put-end c =
    let n = c.name_length-n in
    let name = c.args.name.now in
    sym (length-take-le n.result name (omega (arith, n.ensures, unfilled_short name)))

pub returns-clause-prints : goal.returns-clause-prints
returns-clause-prints c =
    let name = c.args.name.now in
    prints_is (ap (λ (k : ℕ). take k name) c.name_length-n.ensures ∙ unfilled_front name) c.put.ensures.prints
