-- `is_barred` meets its contract: what its rule is asked is as the place stands. Assumes nothing.
use native.Mathlib.Omega.{arith}
use Rattle.places.proofs.Standing.{stands_as}
use Rattle.barred.proofs.is_barred.Goals as goal

pub is_barred_name-requires : goal.is_barred_name-requires
is_barred_name-requires c = let s = stands_as _ _ c.in-UpstreamName.ensures in (omega arith, omega arith)

pub is_barred_name-requires-in-TargetName : goal.is_barred_name-requires-in-TargetName
is_barred_name-requires-in-TargetName c = let s = stands_as _ _ c.in-TargetName.ensures in (omega arith, omega arith)

pub is_barred_next-requires : goal.is_barred_next-requires
is_barred_next-requires c = let s = stands_as _ _ c.in-Next.ensures in omega arith
