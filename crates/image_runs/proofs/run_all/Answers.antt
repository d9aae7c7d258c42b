use native.Mathlib.Omega.{arith}
use Rattle.image_runs.proofs.Runs.{going_on, going_stops, going_ends}
use Rattle.image_runs.proofs.Endings.{ends_refused}
use Rattle.image_runs.proofs.run_all.Goals as goal

pub returns-in-Err : goal.returns-in-Err
returns-in-Err c =
    ends_refused _ c.loop-i.room _ _ _ (going_stops _ _ _ _ _ _ c.loop-i.invariant c.loop-i-test.true _ c.in-Err.ensures.0) c.refusal.ensures

pub loop-i-preserved : goal.loop-i-preserved
loop-i-preserved c =
    going_on _ _ _ _ _ _ c.loop-i.invariant c.loop-i-test.true _ _ _ c.in-Ok.ensures.0 c.in-Ok.ensures.1 c.put-p.ensures

pub returns : goal.returns
returns c =
    let i = c.loop-i.invariant in (
      omega (arith, i.few),
      going_ends _ _ _ _ _ _ i c.loop-i-test.false,
    )
