-- `write` meets its contract: the bytes that were filled are the image of the machine. Assumes nothing.
use Prim.Native.Nat.{ℕ}
use mathlib.Core.Path.{ap}
use mathlib.Core.List.{List}
use Rattle.answers.specs.Given.{gives}
use Rattle.answers.proofs.Given.{delivers_as}
use Rattle.image.proofs.Sealing.{image_taken}
use Rattle.image.proofs.writer.write.Goals as goal

pub returns : goal.returns
returns c =
    let e = image_taken _ _ _ c.fill.ensures c.blocks_for-n.ensures.0 in
    delivers_as (ap (λ (l : List ℕ). gives l 0 0) e) c.write_out.ensures
