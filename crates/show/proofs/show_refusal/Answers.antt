-- `show_refusal` meets its contract: what is written is within the buffer. Assumes nothing of its own.
use Prim.Native.Nat.{ℕ, ◌≤◌}
use mathlib.Core.Path.{sym, subst}
use lib.ListN.{replicate}
use lib.Seq.{length-take-le}
use Rattle.listing.proofs.Fits.{delivered_within}
use Rattle.show.proofs.show_refusal.Goals as goal

pub slice_bounds-line-end : goal.slice_bounds-line-end
slice_bounds-line-end c =
    subst (λ (n : ℕ). c.in-Ok.done.written ≤ n) (sym c.refusal_line.auto.out)
    (delivered_within (replicate 53 0) c.refusal_line.ensures c.in-Ok.is)

pub slice_bounds-write_all-end : goal.slice_bounds-write_all-end
slice_bounds-write_all-end c =
    sym (length-take-le _ c.refusal_line.new.out (subst (λ (n : ℕ). c.in-Ok.done.written ≤ n) (sym c.refusal_line.auto.out)
    (delivered_within (replicate 53 0) c.refusal_line.ensures c.in-Ok.is)))
