-- The theorem about runs over images, as a reader wants to find it. Assumes nothing.
use Rattle.std.proofs.Common.{Ok, Err}
use Prim.Native.Nat.{ℕ, suc, ◌+◌}
use mathlib.Core.Path.{◌≡◌, refl, sym, ap, ◌∙◌}
use mathlib.Core.List.{List, [], ◌∷◌, ◌++◌}
use native.Mathlib.Omega.{arith}
use lib.ListN.{length}
use Rattle.image_runs.specs.Run.{Step, step_at, puts, inserts, leads, Walked, ended, stopped, walked_on, resumed, walked, then}
use Rattle.image_runs.proofs.Runs.{walked_further, walked_none}

walked_then : (k i : ℕ) (put : List ℕ) (r : Walked) (rest : ℕ → Walked) → walked_on 1 put i (then k r rest) ≡ then (suc k) (walked_on 1 put i r) rest
walked_then k i put (ended out n t) rest =
    let e : 1 + k ≡ suc k = omega arith in
    walked_further 1 k i n put out (rest t) ∙ ap (λ (x : ℕ). walked_on x (put ++ out) (i + n) (rest t)) e
walked_then k i put (stopped why j) rest = refl

-- From the end state of one run over an image it goes on as the one stream would.
pub goes_on : (image : List ℕ) (s : ℕ) (first second : List ℕ)
    → walked image s (first ++ second) ≡ then (length first) (walked image s first) (λ (t : ℕ). walked image t second)
unfolding walked
goes_on image s [] second = sym (walked_none (walked image s second))
goes_on image s (b ∷ first) second = by (step_at image s b) (λ t. goes_on image t first second)
  where
    by : (step : Step)
        → ((t : ℕ) → walked image t (first ++ second) ≡ then (length first) (walked image t first) (λ (u : ℕ). walked image u second))
        → resumed b (λ (t : ℕ). walked image t (first ++ second)) step
        ≡ then (suc (length first)) (resumed b (λ (t : ℕ). walked image t first) step) (λ (u : ℕ). walked image u second)
    by (Err why) rest = refl
    by (Ok m) rest =
        ap (walked_on 1 (puts b m) (inserts m)) (rest (leads m))
        ∙ walked_then (length first) (inserts m) (puts b m) (walked image (leads m) first) (λ (u : ℕ). walked image u second)
