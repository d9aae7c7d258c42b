-- `show` meets its contract: what is written is within the buffer. Assumes nothing of its own.
use Prim.Native.Nat.{ℕ, ◌≤◌}
use mathlib.Core.Path.{sym, subst}
use lib.ListN.{replicate}
use lib.Seq.{length-take-le}
use Rattle.listing.proofs.Fits.{listing_within}
use Rattle.show.proofs.show.Goals as goal

pub slice_bounds-out-end : goal.slice_bounds-out-end
slice_bounds-out-end c =
    subst (λ (n : ℕ). c.in-Ok.done.written ≤ n) (sym c.list-answer.auto.out)
    (listing_within (replicate 73728 0) c.list-answer.ensures c.in-Ok.is)

pub slice_bounds-write_all-end : goal.slice_bounds-write_all-end
slice_bounds-write_all-end c =
    sym (length-take-le _ c.list-answer.new.out (subst (λ (n : ℕ). c.in-Ok.done.written ≤ n) (sym c.list-answer.auto.out)
    (listing_within (replicate 73728 0) c.list-answer.ensures c.in-Ok.is)))
