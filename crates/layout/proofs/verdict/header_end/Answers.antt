-- `header_end` meets its contract: with a target fence no zero behind the header is barred. Assumes nothing.
use Prim.Native.Nat.{◌<◌}
use native.Mathlib.Omega.{arith}
use Rattle.barred.specs.Barred.{target_fences_of}
use Rattle.layout.proofs.Zeros.{zero_kept}
use Rattle.layout.proofs.verdict.header_end.Goals as goal

pub returns-else-number_at-eq0 : goal.returns-else-number_at-eq0
returns-else-number_at-eq0 c =
    let image = c.args.image.now in
    let fence : 0 < target_fences_of image = omega (arith, c.number_at.ensures.0, c.if-number_at-eq0.false) in
    (omega (arith, c.min.ensures), λ i p l z. zero_kept image fence i (omega (arith, c.min.ensures, p, l)) z)
