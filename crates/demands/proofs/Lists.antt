-- When a listing is refused, in 01's words: what its call gives is followed through its stages, each of which goes on or gives its refusal; and what
-- 01 says of an input tells at which of them it is refused. Assumes nothing.
use Rattle.std.proofs.Common.{Option, Some, Ok, Err, None}
use Prim.Native.Nat.{ℕ, ◌<◌, ◌≤◌}
use mathlib.Core.Path.{◌≡◌, refl, sym, ap, subst, ◌∙◌}
use mathlib.Core.Bool.{Bool, true, false, cond}
use mathlib.Core.List.{List, map}
use native.Mathlib.Omega.{arith}
use borrow.Author.Tests.{ltb-true, ltb-false, lt-ltb, le-ltb}
use lib.Dec.{ltb}
use lib.ListN.{length}
use Rattle.rule.specs.declared.way.Way.{Way}
use Rattle.ground.proofs.Truths.{differ}
use Rattle.answers.specs.declared.Refusal.{Refusal}
use Rattle.answers.specs.Answer.{Verdict}
use Rattle.answers.specs.Given.{Given, refuses, GivenUnless}
use Rattle.operations.specs.Operation.{byte_of}
use Rattle.rule.specs.Stream.{Stream}
use Rattle.rule.specs.Rule.{way_number}
use Rattle.shims.specs.declared.Models.{Models}
use Rattle.shims.specs.Opening.{Opening, way_of, opened_by, opened, GivenOnOpened}
use Rattle.shims.proofs.Theorems.{read_written, opens, opens_so}
use Rattle.runs.specs.Bytes.{puts, direct}
use Rattle.runs.specs.Call.{run_given}
use Rattle.mealy.specs.Runs.{Answer, Same}
use Rattle.mealy.specs.Arrivals.{AtMost, Described}
use Rattle.mealy.proofs.Unique.{equal, same_states, not_more, described_unique}
use Rattle.machine.specs.Counted.{ManySituations, ManyStates}
use Rattle.machine.proofs.Counting.{many_situations, many_states}
use Rattle.machine.proofs.Determined.{too_few}
use Rattle.listed.specs.Parts.{Parts, rule_of, listed_text, MachineListed, crowded, overfull, made, ModelsListed, halts, runs, PartsListed}
use Rattle.listing.specs.Shape.{shape}
use Rattle.listing.specs.Listed as listed
use Rattle.listing.specs.Listed.{ShapeListed, shaped, Listed, over, within}
use Rattle.listing.proofs.Determined.{one_listing}
use Rattle.demands.specs.Opened.{up, on}
use Rattle.demands.specs.DirectRuns as direct-runs
use Rattle.demands.specs.DirectRuns.{Accepts, StreamRefused, no_operation, no_such_fence, no_fence_will_do}
use Rattle.demands.specs.Listings.{ListShaped, ListOpened, ListRan, ListRefused, over_limit, shapeless, opening, at_stream}
use Rattle.demands.specs.Listings.{situations, states, ListExceeds, too_small}
use Rattle.demands.proofs.Accepted.{few_targets}
use Rattle.demands.proofs.Delivered.{Withheld, refused, exceeds, refused_as}
use Rattle.demands.proofs.Direct.{DirectIs, puts_out, at_4, at_5, at_6, direct_is, is_direct}
use Rattle.demands.proofs.Opening.{opens_told, told_opens, opening_told, told_opening}

-- what the stream's stage gives
data StreamIs (m : Models) (stream : List ℕ) : Given → Type 0 where
  stops : {why : Refusal} → StreamRefused m stream why → StreamIs m stream (refuses why)
  goes_on : {output : Stream} → length stream ≤ 4096 → Accepts m stream output → StreamIs m stream (puts (map byte_of output))

module _ (m : Models) (stream : List ℕ) where
  stream_is : StreamIs m stream (run_given m stream)
  stream_is = by_length (ltb 4096 (length stream)) refl
    where
      by : length stream ≤ 4096 → {g : Given} → DirectIs m stream g → StreamIs m stream g
      by l (puts_out a) = goes_on l a
      by l (at_4 place s) = stops (no_operation place l s)
      by l (at_5 place s) = stops (no_such_fence place l s)
      by l (at_6 place s) = stops (no_fence_will_do place l s)

      by_length : (b : Bool) → ltb 4096 (length stream) ≡ b
          → StreamIs m stream (cond b (refuses Refusal.OverLimit) (direct m.way (up m) (on m) stream))
      by_length true e = stops (direct-runs.over_limit (ltb-true 4096 (length stream) e))
      by_length false e = by (ltb-false 4096 (length stream) e) (direct_is m stream)

  is_stream : {g : Given} → StreamIs m stream g → run_given m stream ≡ g
  is_stream (stops (direct-runs.over_limit l)) = simp (lt-ltb 4096 (length stream) l)
  is_stream (stops (no_operation place l s)) = simp (le-ltb 4096 (length stream) l) (is_direct m stream (at_4 place s))
  is_stream (stops (no_such_fence place l s)) = simp (le-ltb 4096 (length stream) l) (is_direct m stream (at_5 place s))
  is_stream (stops (no_fence_will_do place l s)) = simp (le-ltb 4096 (length stream) l) (is_direct m stream (at_6 place s))
  is_stream (goes_on l a) = simp (le-ltb 4096 (length stream) l) (is_direct m stream (puts_out a))

runs_told : {input : List ℕ} {p : Parts} {m : Models} → ListOpened input p m → {g : Given} → StreamIs m p.stream g → {output : List ℕ}
    → g ≡ puts output → (r : ListRan input m) × (output ≡ map byte_of r.output)
runs_told o (stops s) e = differ (cc)
runs_told {p = p} o (goes_on {output = output} l a) e = (record { parts = p; opens = o; short = l; output = output; accepts = a }, cc)

-- where the machine of an accepted stream's models has at most so many, 8 and 9 do not hold of them
module _ {input : List ℕ} {m : Models} (r : ListRan input m) where
  few : length (on m).fences ≤ 16
  few = few_targets r.opens.opened

  not_crowded : AtMost (rule_of m) ◌≡◌ 4096 → ManySituations m.way (up m) (on m) → ⊥
  not_crowded f z = not_more (rule_of m) ◌≡◌ equal 4096 f ((many_situations m.way (up m) (on m) few 4096).1 z)

  not_overfull : {k : ℕ} {row : ℕ → ℕ → Answer ℕ ℕ} → k ≤ 255 → Described (rule_of m) (Same (rule_of m)) k row
      → ManyStates m.way (up m) (on m) → ⊥
  not_overfull l d z = too_few (rule_of m) d l ((many_states m.way (up m) (on m) few).1 z)

module _ {input : List ℕ} {room : ℕ} where
  as_told : {v : Refusal} → ListRefused input room v → {g : Given} → g ≡ refuses v → {why : Refusal} → Withheld g room why
      → ListRefused input room why
  as_told h e w = subst (ListRefused input room) (refused_as e w) h

  -- what the machine's stage withholds; the stream's; that of the texts; of the shape; and of the whole

  machine_told : {m : Models} (r : ListRan input m) {g : Given} → MachineListed m (map byte_of r.output) g → {why : Refusal} → Withheld g room why
      → ListRefused input room why
  machine_told {m} r (crowded h) w = as_told (situations r ((many_situations m.way (up m) (on m) (few r) 4096).0 h)) refl w
  machine_told {m} r (overfull f h) w = as_told (states r (not_crowded r f) ((many_states m.way (up m) (on m) (few r)).0 h)) refl w
  machine_told r (made f l d) (refused e) = differ (cc)
  machine_told {m} r (made {k = k} {row = row} f l d) (exceeds {bytes = bytes} e x) =
      let same : listed_text m (map byte_of r.output) k row ≡ bytes = cc in
      too_small r
      (record {
        few_situations = not_crowded r f;
        few_states = not_overfull r l d;
        states = k;
        row = row;
        described = d;
        exceeds = omega (arith, x, ap length same);
      })

  module _ {p : Parts} {m : Models} (o : ListOpened input p m) where
    halts_told : {g : Given} → StreamIs m p.stream g → {v why : Refusal} → g ≡ refuses v → Withheld (refuses v) room why
        → ListRefused input room why
    halts_told (stops s) e w = as_told (at_stream o s) (sym e) w
    halts_told (goes_on l a) e w = differ (cc)

    models_told : {g : Given} → ModelsListed m p.stream g → {why : Refusal} → Withheld g room why → ListRefused input room why
    models_told (halts r) w = halts_told (stream_is m p.stream) r w
    models_told {g} (runs r h) w =
        let ran = runs_told o (stream_is m p.stream) r in
        machine_told ran.0 (subst (λ (x : List ℕ). MachineListed m x g) ran.1 h) w

  parts_told : {p : Parts} → ListShaped input p → {g : Given} → PartsListed p g → {why : Refusal} → Withheld g room why
      → ListRefused input room why
  parts_told {p} s {g} h {why} w =
      by call refl (subst (λ (r : Option Way). Right (opened_by r p.upstream p.target)) (sym (read_written p.way)) h)
    where
      Right : Opening → Type 0
      Right x = GivenOnOpened x (λ (m : Models). ModelsListed m p.stream) g

      call : Opening
      call = opened (way_number p.way) p.upstream p.target

      by : (o : Opening) → call ≡ o → Right o → ListRefused input room why
      by (Err is) v x = as_told (opening s (opening_told (way_number p.way) p.upstream p.target v)) x w
      by (Ok m) v x =
          models_told (record { shape_is = s; opened = opens_told (opens (way_of (way_number p.way)) p.upstream p.target v) }) x w

  shape_told : length input ≤ 32768 → {q : Option Parts} → shape input ≡ q → {g : Given} → ShapeListed q g → {why : Refusal} → Withheld g room why
      → ListRefused input room why
  shape_told l s listed.shapeless w = as_told (shapeless l s) refl w
  shape_told l s (shaped h) w = parts_told (record { within = l; shaped = s }) h w

  -- What a call withholds is refused as 01 says,
  pub withheld_listing : {g : Given} → Listed input g → {why : Refusal} → Withheld g room why → ListRefused input room why
  withheld_listing (over l) w = as_told (over_limit l) refl w
  withheld_listing (within l h) w = shape_told l refl h w

-- the same stages from what 01 says of the input: each gives its refusal, or goes on to what the next one gives

over_given : {input : List ℕ} {g : Given} → Listed input g → 32768 < length input → g ≡ refuses Refusal.OverLimit
over_given (over k) l = refl
over_given (within k s) l = absurd (omega arith)

shape_given : {input : List ℕ} {g : Given} → Listed input g → length input ≤ 32768 → ShapeListed (shape input) g
shape_given (over k) l = absurd (omega arith)
shape_given (within k s) l = s

shapeless_given : {q : Option Parts} {g : Given} → ShapeListed q g → q ≡ None → g ≡ refuses (Refusal.NotOfTheForm 0)
shapeless_given listed.shapeless e = refl
shapeless_given (shaped s) e = differ (cc)

parts_given : {p : Parts} {q : Option Parts} {g : Given} → ShapeListed q g → q ≡ Some p → PartsListed p g
parts_given listed.shapeless e = differ (cc)
parts_given {p} {g = g} (shaped {p = r} h) e =
    let same : r ≡ p = cc in
    subst (λ (x : Parts). PartsListed x g) same h

-- the texts' stage goes by what the way's number and the texts open
opens_parts : (p : Parts) {x : Opening} → opened (way_number p.way) p.upstream p.target ≡ x
    → opened_by (Some p.way) p.upstream p.target ≡ x
opens_parts p e = ap (λ (r : Option Way). opened_by r p.upstream p.target) (sym (read_written p.way)) ∙ e

opening_given : {input : List ℕ} {p : Parts} {g : Given} → Listed input g → ListShaped input p → {x : Opening}
    → opened (way_number p.way) p.upstream p.target ≡ x → GivenOnOpened x (λ (m : Models). ModelsListed m p.stream) g
opening_given {p = p} {g = g} h s e =
    subst (λ (x : Opening). GivenOnOpened x (λ (m : Models). ModelsListed m p.stream) g) (opens_parts p e)
    (parts_given (shape_given h s.within) s.shaped)

models_given : {input : List ℕ} {p : Parts} {m : Models} {g : Given} → Listed input g → ListOpened input p m → ModelsListed m p.stream g
models_given h o = opening_given h o.shape_is (opens_so (told_opens o.opened))

listed_models : {input : List ℕ} {p : Parts} {m : Models} {g : Given} → ListOpened input p m → ModelsListed m p.stream g → Listed input g
listed_models {p = p} {g = g} o h =
    within o.shape_is.within
    (subst (λ (q : Option Parts). ShapeListed q g) (sym o.shape_is.shaped)
    (shaped (subst (λ (x : Opening). GivenOnOpened x (λ (m : Models). ModelsListed m p.stream) g)
    (sym (opens_parts p (opens_so (told_opens o.opened)))) h)))

stopped_given : {m : Models} {stream : List ℕ} {g : Given} {why : Refusal} → ModelsListed m stream g → run_given m stream ≡ refuses why
    → g ≡ refuses why
stopped_given (halts r) e = sym r ∙ e
stopped_given {why = why} (runs {output = output} r h) e =
    let z : puts output ≡ refuses why = sym r ∙ e in
    differ (cc)

machine_given : {m : Models} {stream : List ℕ} {g : Given} {output : List ℕ} → ModelsListed m stream g → run_given m stream ≡ puts output
    → MachineListed m output g
machine_given {output = output} (halts {why = why} r) e =
    let z : refuses why ≡ puts output = sym r ∙ e in
    differ (cc)
machine_given {m} {g = g} {output = output} (runs {output = other} r h) e =
    let z : puts other ≡ puts output = sym r ∙ e in
    let same : other ≡ output = cc in
    subst (λ (x : List ℕ). MachineListed m x g) same h

module _ {input : List ℕ} {m : Models} (r : ListRan input m) where
  runs_so : run_given m r.parts.stream ≡ puts (map byte_of r.output)
  runs_so = is_stream m r.parts.stream (goes_on r.short r.accepts)

  ran_given : {g : Given} → Listed input g → MachineListed m (map byte_of r.output) g
  ran_given h = machine_given (models_given h r.opens) runs_so

  gives_8 : {g : Given} → Listed input g → ManySituations m.way (up m) (on m) → g ≡ refuses Refusal.TooManySituations
  gives_8 h z = by (ran_given h)
    where
      by : {g : Given} → MachineListed m (map byte_of r.output) g → g ≡ refuses Refusal.TooManySituations
      by (crowded x) = refl
      by (overfull f x) = absurd (not_crowded r f z)
      by (made f l d) = absurd (not_crowded r f z)

  gives_9 : {g : Given} → Listed input g → (ManySituations m.way (up m) (on m) → ⊥) → ManyStates m.way (up m) (on m)
      → g ≡ refuses Refusal.TooManyStates
  gives_9 h n z = by (ran_given h)
    where
      by : {g : Given} → MachineListed m (map byte_of r.output) g → g ≡ refuses Refusal.TooManyStates
      by (crowded x) = absurd (n ((many_situations m.way (up m) (on m) (few r) 4096).0 x))
      by (overfull f x) = refl
      by (made f l d) = absurd (not_overfull r l d z)

  -- 7: two machines that describe the rule have as many states, and what an input is listed as is determined
  gives_7 : {room : ℕ} {g : Given} → Listed input g → ListExceeds m r.output room → Withheld g room Refusal.BufferTooSmall
  gives_7 {room} h x = by h (ran_given h)
    where
      by : {g : Given} → Listed input g → MachineListed m (map byte_of r.output) g → Withheld g room Refusal.BufferTooSmall
      by h (crowded z) = absurd (x.few_situations ((many_situations m.way (up m) (on m) (few r) 4096).0 z))
      by h (overfull f z) = absurd (x.few_states ((many_states m.way (up m) (on m) (few r)).0 z))
      by h (made f l d) =
          let same = (described_unique (rule_of m) (Same (rule_of m)) (same_states (rule_of m)) d x.described).0 in
          exceeds (one_listing h (listed_models r.opens (runs runs_so (made f (omega (arith, l, same)) x.described)))) x.exceeds

-- and what 01 refuses is withheld.
pub listing_withheld : {input : List ℕ} {room : ℕ} {g : Given} → Listed input g → {why : Refusal} → ListRefused input room why → Withheld g room why
listing_withheld h (over_limit l) = refused (over_given h l)
listing_withheld h (shapeless l s) = refused (shapeless_given (shape_given h l) s)
listing_withheld h (opening s o) = refused (opening_given h s (told_opening o))
listing_withheld h (at_stream {p = p} {m = m} o s) = refused (stopped_given (models_given h o) (is_stream m p.stream (stops s)))
listing_withheld h (situations r z) = refused (gives_8 r h z)
listing_withheld h (states r n z) = refused (gives_9 r h n z)
listing_withheld h (too_small r x) = gives_7 r h x
