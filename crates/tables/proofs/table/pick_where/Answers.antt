-- `pick_where` meets its contract: the two planes are picked and joined. Assumes nothing.
use Rattle.std.proofs.Common.{ℕ, ◌+◌, ◌*◌, ap, ◌∙◌, arith}
use mathlib.Core.Path.{ap₂}
use Rattle.tables.proofs.Planes.{picked_highs, picked_lows, high_from, low_from, picked_joined, plane_fits}
use Rattle.tables.proofs.Laws.{picked_places}
use Rattle.tables.proofs.table.pick_where.Goals as goal

pub overflow_mul-result : goal.overflow_mul-result
overflow_mul-result c =
    let a = c.args in
    omega (
      arith,
      plane_fits _ (picked_highs a.a.packed a.b.packed a.x.packed a.y.packed)
          (c.pick_bits-high.ensures
          ∙ high_from a.a.packed a.b.packed a.x.packed a.y.packed _ c.exceeds-at.ensures _ _ c.high_bits.ensures c.high_bits-2.ensures),
    )

pub overflow_add-result : goal.overflow_add-result
overflow_add-result c =
    let a = c.args in
    omega (
      arith,
      plane_fits _ (picked_highs a.a.packed a.b.packed a.x.packed a.y.packed)
          (c.pick_bits-high.ensures
          ∙ high_from a.a.packed a.b.packed a.x.packed a.y.packed _ c.exceeds-at.ensures _ _ c.high_bits.ensures c.high_bits-2.ensures),
      plane_fits _ (picked_lows a.a.packed a.b.packed a.x.packed a.y.packed)
          (c.pick_bits-low.ensures
          ∙ low_from a.a.packed a.b.packed a.x.packed a.y.packed _ c.exceeds-at.ensures _ _ c.low_bits.ensures c.low_bits-2.ensures),
    )

pub returns : goal.returns
returns c =
    let a = c.args in
    ap (λ (n : ℕ). record { packed = n })
    (ap₂ (λ (h l : ℕ). 2 * h + l)
    (c.pick_bits-high.ensures
    ∙ high_from a.a.packed a.b.packed a.x.packed a.y.packed _ c.exceeds-at.ensures _ _ c.high_bits.ensures c.high_bits-2.ensures)
    (c.pick_bits-low.ensures
    ∙ low_from a.a.packed a.b.packed a.x.packed a.y.packed _ c.exceeds-at.ensures _ _ c.low_bits.ensures c.low_bits-2.ensures)
    ∙ picked_joined a.a.packed a.b.packed a.x.packed a.y.packed)
    ∙ picked_places a.a a.b a.x a.y
