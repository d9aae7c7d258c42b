-- `exceeds` meets its contract: each bitwise operation on whole planes is that operation in each cell. Assumes nothing.
use Rattle.tables.proofs.Planes.{exceeds_from}
use Rattle.tables.proofs.table.exceeds.Goals as goal

pub returns : goal.returns
returns c =
    let a = c.args in
    exceeds_from a.a a.b _ _ _ _ c.high_bits-high.ensures c.high_bits-no_high.ensures
    c.low_bits-low.ensures c.low_bits-no_low.ensures
