-- What a call opens with, in 01's words and by the stages that it goes through: each stage reads one thing, and what it reads is what 01 tells of it.
-- Assumes nothing.
use Rattle.std.proofs.Common.{Option, Some, None, Ok, Err}
use Prim.Native.Nat.{ℕ}
use mathlib.Core.Path.{◌≡◌, refl, sym, ap, subst, ◌∙◌}
use mathlib.Core.Bool.{Bool, true, false, cond}
use mathlib.Core.List.{List}
use borrow.Author.Tests.{eqb-true}
use lib.Dec.{eqb}
use Rattle.ground.proofs.Truths.{differ}
use Rattle.answers.specs.declared.Refusal.{Refusal}
use Rattle.rule.specs.declared.way.Way.{Way}
use Rattle.rule.specs.Rule.{way_number}
use Rattle.models.specs.declared.model.Model.{Model}
use Rattle.models.specs.Told.{Reading, Told, accepting, refusing}
use Rattle.models.specs.Reading.{reading}
use Rattle.models.proofs.Words.{told, told_is}
use Rattle.shims.specs.declared.Models.{Models}
use Rattle.shims.specs.Opening.{Opening, way_of, on_reading, on_target, opened_by, opened, Opens}
use Rattle.shims.specs.Opening as shims
use Rattle.shims.proofs.Theorems.{read_written, opens_so}
use Rattle.demands.specs.Opened.{Opened, OpeningRefused, no_way, upstream_refused, target_refused}

-- a number that is a way's
way_named : (number : ℕ) (way : Way) → way_of number ≡ Some way → number ≡ way_number way
way_named number way e = look (eqb number 0) refl (eqb number 1) refl e
  where
    look : (a : Bool) → eqb number 0 ≡ a → (b : Bool) → eqb number 1 ≡ b
        → cond a (Some Way.Sparing) (cond b (Some Way.Full) None) ≡ Some way → number ≡ way_number way
    look true p b q z =
        let w : Way.Sparing ≡ way = cc in
        eqb-true number 0 p ∙ ap way_number w
    look false p true q z =
        let w : Way.Full ≡ way = cc in
        eqb-true number 1 q ∙ ap way_number w
    look false p false q z = differ (cc)

named_way : {number : ℕ} {way : Way} → number ≡ way_number way → way_of number ≡ Some way
named_way {way = way} e = ap way_of e ∙ read_written way

module _ {number : ℕ} {upstream target : List ℕ} where
  -- a call that opens, opens with the models that 01 tells
  pub opens_told : {models : Models} → Opens (way_of number) upstream target models → Opened number upstream target models
  opens_told {models} o =
      record {
        way_named = way_named number models.way o.way_read;
        upstream_told = subst (Told upstream) o.upstream_read (told upstream);
        target_told = subst (Told target) o.target_read (told target);
      }

  pub told_opens : {models : Models} → Opened number upstream target models → Opens (way_of number) upstream target models
  told_opens o =
      record {
        way_read = named_way o.way_named;
        upstream_read = sym (told_is o.upstream_told);
        target_read = sym (told_is o.target_told);
      }

  -- and with no others
  pub opened_one : {m m' : Models} → Opened number upstream target m → Opened number upstream target m' → m ≡ m'
  opened_one {m} {m'} p q = let e : Path Opening (shims.opening m) (shims.opening m') = sym (opens_so (told_opens p)) ∙ opens_so (told_opens q) in cc

-- what is read of a text is what 01 tells of it
pub told_refused : (t : List ℕ) {why : Refusal} → reading t ≡ refusing why → Told t (refusing why)
told_refused t e = subst (Told t) e (told t)

pub told_accepted : (t : List ℕ) {m : Model} → reading t ≡ accepting m → Told t (accepting m)
told_accepted t e = subst (Told t) e (told t)

-- an opening that is refused is refused by the first of its three that is
pub opening_told : (number : ℕ) (upstream target : List ℕ) {why : Refusal} → opened number upstream target ≡ shims.refusing why
    → OpeningRefused number upstream target why
opening_told number upstream target {why} e = by_way (way_of number) refl e
  where
    by_target : (way : Way) → number ≡ way_number way → {u : Model} → Told upstream (accepting u) → (r : Reading) → reading target ≡ r
        → on_reading r (λ (t : Model). shims.opening (record { way = way; upstream = u; target = t })) ≡ shims.refusing why
        → OpeningRefused number upstream target why
    by_target way w u (Ok t) e z = differ (cc)
    by_target way w u (Err is) e z =
        let same : is ≡ why = cc in
        subst (OpeningRefused number upstream target) same (target_refused way w u (told_refused target e))

    by_upstream : (way : Way) → number ≡ way_number way → (r : Reading) → reading upstream ≡ r
        → on_reading r (λ (m : Model). on_target way m target) ≡ shims.refusing why → OpeningRefused number upstream target why
    by_upstream way w (Ok u) e z = by_target way w (told_accepted upstream e) (reading target) refl z
    by_upstream way w (Err is) e z =
        let same : is ≡ why = cc in
        subst (OpeningRefused number upstream target) same (upstream_refused way w (told_refused upstream e))

    by_way : (read : Option Way) → way_of number ≡ read → opened_by read upstream target ≡ shims.refusing why
        → OpeningRefused number upstream target why
    by_way None r z =
        let same : Refusal.OutOfRange ≡ why = cc in
        subst (OpeningRefused number upstream target) same
        (no_way (λ way h.
        let n : None ≡ Some way = sym r ∙ named_way h in
        differ (cc)))
    by_way (Some way) r z = by_upstream way (way_named number way r) (reading upstream) refl z

-- and the other way round
pub told_opening : {number : ℕ} {upstream target : List ℕ} {why : Refusal} → OpeningRefused number upstream target why
    → opened number upstream target ≡ shims.refusing why
told_opening {number} {upstream} {target} (no_way n) = by (way_of number) refl
  where
    by : (read : Option Way) → way_of number ≡ read → opened_by read upstream target ≡ shims.refusing Refusal.OutOfRange
    by None r = refl
    by (Some way) r = absurd (n way (way_named number way r))
told_opening {number} {upstream} {target} (upstream_refused way w u) =
    ap (λ (r : Option Way). opened_by r upstream target) (named_way w)
    ∙ ap (λ (r : Reading). on_reading r λ (m : Model). on_target way m target) (sym (told_is u))
told_opening {number} {upstream} {target} (target_refused {u = m} way w u t) =
    ap (λ (r : Option Way). opened_by r upstream target) (named_way w)
    ∙ ap (λ (r : Reading). on_reading r λ (m : Model). on_target way m target) (sym (told_is u))
    ∙ ap (λ (r : Reading). on_reading r λ (t : Model). shims.opening (record { way = way; upstream = m; target = t })) (sym (told_is t))
