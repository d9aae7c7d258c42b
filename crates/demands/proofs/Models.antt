-- What is given by the calls that take a model's text or a built-in's number, in 01's words: what is read of a text is what 01 tells of it, and a
-- number is in range or not. Assumes nothing.
use Rattle.std.proofs.Common.{Ok, Err}
use Prim.Native.Nat.{ℕ, ◌<◌, ◌≤◌}
use mathlib.Core.Path.{◌≡◌, refl, sym, ap, subst, ◌∙◌}
use mathlib.Core.List.{List}
use native.Mathlib.Decide.{dec_lt}
use native.Mathlib.Omega.{arith}
use borrow.Author.Tests.{lt-ltb, le-ltb}
use lib.ListN.{length}
use Rattle.comparison.specs.Comparison.{Compared, compared_both, compared_first, comparing}
use Rattle.ground.proofs.Truths.{differ}
use Rattle.answers.specs.declared.Refusal.{Refusal}
use Rattle.answers.specs.Given.{Given, gives, refuses}
use Rattle.models.specs.declared.model.Model.{Model}
use Rattle.models.specs.Told.{Reading, Told, accepting}
use Rattle.models.specs.Reading.{reading}
use Rattle.models.specs.Text.{text_of}
use Rattle.models.proofs.Words.{told_is}
use Rattle.writing.specs.Calls.{text_given, back_given}
use Rattle.built_ins.specs.BuiltIns.{built_in, built_in_reading, built_in_given}
use Rattle.comparison.proofs.Words.{compares, compares_is}
use Rattle.demands.specs.ModelCalls as calls
use Rattle.demands.specs.ModelCalls.{ModelRefused, text_refused, BuiltInRefused, out_of_range, TextsCompare, first_refused, second_refused}
use Rattle.demands.proofs.Delivered.{Withheld, refused, exceeds, refused_as}
use Rattle.demands.proofs.Opening.{told_refused, told_accepted}

-- what is given of a text whose reading is told
pub told_given : {text : List ℕ} {r : Reading} → Told text r → back_given text ≡ text_given r text
told_given {text} t = ap (λ (x : Reading). text_given x text) (sym (told_is t))

module _ (text : List ℕ) (room : ℕ) where
  pub model_told : {why : Refusal} → Withheld (back_given text) room why → ModelRefused text room why
  model_told h = by (reading text) refl h
    where
      by : (v : Reading) → reading text ≡ v → {why : Refusal} → Withheld (text_given v text) room why → ModelRefused text room why
      by (Err is) e w = subst (ModelRefused text room) (refused_as refl w) (text_refused (told_refused text e))
      by (Ok m) e (refused h) = differ (cc)
      by (Ok m) e (exceeds {bytes = bytes} h l) =
          let same : text ≡ bytes = cc in
          calls.too_small (told_accepted text e) (omega (arith, l, ap length same))

  pub told_model : {why : Refusal} → ModelRefused text room why → Withheld (back_given text) room why
  told_model (text_refused t) = refused (told_given t)
  told_model (calls.too_small t l) = exceeds (told_given t) l

module _ (number room : ℕ) where
  past : 15 < number → built_in_given number ≡ refuses Refusal.OutOfRange
  unfolding built_in_reading
  past l = rw (lt-ltb 15 number l)

  pub in_range_lem : number ≤ 15 → built_in_given number ≡ gives (text_of (built_in number)) 0 0
  unfolding built_in_reading
  in_range_lem l = rw (le-ltb 15 number l)

  pub built_in_told : {why : Refusal} → Withheld (built_in_given number) room why → BuiltInRefused number room why
  built_in_told {why} h = by (dec_lt 15 number)
    where
      room_short : number ≤ 15 → {is : Refusal} → Withheld (gives (text_of (built_in number)) 0 0) room is → BuiltInRefused number room is
      room_short l (refused e) = differ (cc)
      room_short l (exceeds {bytes = bytes} e k) =
          let same : text_of (built_in number) ≡ bytes = cc in
          calls.too_small l (omega (arith, k, ap length same))

      by : Dec (15 < number) → BuiltInRefused number room why
      by (yes l) = subst (BuiltInRefused number room) (refused_as (past l) h) (out_of_range l)
      by (no l) =
          let m : number ≤ 15 = omega arith in
          room_short m (subst (λ (g : Given). Withheld g room why) (in_range_lem m) h)

  pub told_built_in : {why : Refusal} → BuiltInRefused number room why → Withheld (built_in_given number) room why
  told_built_in (out_of_range l) = refused (past l)
  told_built_in (calls.too_small l k) = exceeds (in_range_lem l) k

-- Two texts compare as 01 says.
pub compared_told : (first second : List ℕ) → TextsCompare first second (comparing first second)
unfolding comparing
compared_told first second = by (reading first) refl
  where
    both : {a : Model} → Told first (accepting a) → (r : Reading) → reading second ≡ r → TextsCompare first second (compared_both a.ppo r)
    both a (Err why) e = second_refused a (told_refused second e)
    both a (Ok m) e = calls.compares a (told_accepted second e) (compares _ _)

    by : (r : Reading) → reading first ≡ r → TextsCompare first second (compared_first r (reading second))
    by (Err why) e = first_refused (told_refused first e)
    by (Ok m) e = both (told_accepted first e) (reading second) refl

pub told_compared : (first second : List ℕ) {c : Compared} → TextsCompare first second c → comparing first second ≡ c
unfolding comparing
told_compared first second (first_refused t) = ap (λ (r : Reading). compared_first r (reading second)) (sym (told_is t))
told_compared first second (second_refused {a = a} t u) =
    ap (λ (r : Reading). compared_first r (reading second)) (sym (told_is t))
    ∙ ap (compared_both a.ppo) (sym (told_is u))
told_compared first second (calls.compares {a = a} t u c) =
    ap (λ (r : Reading). compared_first r (reading second)) (sym (told_is t))
    ∙ ap (compared_both a.ppo) (sym (told_is u))
    ∙ ap Ok (sym (compares_is c))
