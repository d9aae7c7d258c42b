-- What an opening comes to: its stages are gone through one by one, and where all go on the texts were read as its models. Assumes nothing.
use Rattle.std.proofs.Common.{Option, Some, None, Ok, Err}
use Prim.Native.Nat.{ℕ}
use mathlib.Core.Path.{◌≡◌, refl, ap, subst, ◌∙◌}
use mathlib.Core.List.{List}
use Rattle.ground.proofs.Truths.{differ}
use Rattle.rule.specs.declared.way.Way.{Way}
use Rattle.rule.specs.Rule.{way_number}
use Rattle.models.specs.declared.model.Model.{Model}
use Rattle.models.specs.Told.{Reading, accepting}
use Rattle.models.specs.Reading.{reading}
use Rattle.shims.specs.declared.Models.{Models}
use Rattle.shims.specs.Opening.{Opening, way_of, opening, on_reading, on_target, opened_by, Opens}

-- Reading the number that is written for a way gives the way back.
pub read_written : (way : Way) → way_of (way_number way) ≡ Some way
read_written Way.Sparing = refl
read_written Way.Full = refl

-- An opening that is accepted opens with the models of its number and texts,
pub opens : (read : Option Way) (upstream target : List ℕ) {models : Models} → opened_by read upstream target ≡ opening models
    → Opens read upstream target models
opens None upstream target e = differ (cc)
opens (Some way) upstream target {models} e = by_upstream (reading upstream) refl e
  where
    by_target : (u : Model) → reading upstream ≡ accepting u → (r : Reading) → reading target ≡ r
        → on_reading r (λ (t : Model). opening (record { way = way; upstream = u; target = t })) ≡ opening models
        → Opens (Some way) upstream target models
    by_target u v (Ok t) w e =
        let same : record { way = way; upstream = u; target = t } ≡ models = cc in
        subst (Opens (Some way) upstream target) same (record { way_read = refl; upstream_read = v; target_read = w })
    by_target u v (Err why) w e = differ (cc)

    by_upstream : (r : Reading) → reading upstream ≡ r → on_reading r (λ (u : Model). on_target way u target) ≡ opening models
        → Opens (Some way) upstream target models
    by_upstream (Ok u) v e = by_target u v (reading target) refl e
    by_upstream (Err why) v e = differ (cc)

-- and a number and texts that name models open with them.
pub opens_so : {read : Option Way} {upstream target : List ℕ} {models : Models} → Opens read upstream target models
    → opened_by read upstream target ≡ opening models
opens_so {read} {upstream} {target} {models} o =
    ap (λ (r : Option Way). opened_by r upstream target) o.way_read
    ∙ ap (λ (r : Reading). on_reading r λ (u : Model). on_target models.way u target) o.upstream_read
    ∙ ap (λ (r : Reading). on_reading r with_target_lem) o.target_read
  where
    with_target_lem : Model → Opening
    with_target_lem t = opening (record { way = models.way; upstream = models.upstream; target = t })
