-- `name_at` meets its contract: each call of the closure gives the image's byte. Assumes nothing.
use Rattle.std.proofs.Common.{rules, tests, ℕ, ◌+◌}
use Rattle.ground.specs.Bytes.{at}
use Rattle.image.proofs.Fronts.{listed_from_fn}
use Rattle.image.proofs.reader.name_at.Goals as goal

pub returns : goal.returns
returns c =
    let a = c.args in
    listed_from_fn _ _ (λ (k : ℕ). at a.image.now (a.from + k)) _ (λ i v q h. search (rules, tests)) 16 c.from_fn.ensures.items
