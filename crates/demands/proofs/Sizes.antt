-- The sizes that include/shim.h calls never too small: a call with a buffer of that size or more is not refused with 7. What each call gives is at
-- most so long, and no call comes to 7 before it looks at its buffer. Assumes nothing.
use Rattle.std.proofs.Common.{Option, Some, None, Ok, Err}
use Prim.Native.Nat.{ℕ, zero, suc, ◌<◌, ◌≤◌}
use mathlib.Core.Path.{◌≡◌, refl, sym, ap, subst, ◌∙◌}
use mathlib.Core.Bool.{Bool, true, false, cond}
use mathlib.Core.List.{List, [], ◌∷◌}
use native.Mathlib.Omega.{arith}
use borrow.Author.Tests.{ltb-false, leb-true}
use lib.Dec.{leb, ltb}
use lib.ListN.{length, get_or}
use Rattle.rule.specs.declared.way.Way.{Way}
use Rattle.ground.specs.Bytes.{at}
use Rattle.ground.proofs.Truths.{differ, true_false}
use Rattle.answers.specs.declared.Refusal.{Refusal}
use Rattle.answers.specs.Answer.{Answer, Verdict}
use Rattle.answers.specs.Given.{Given, gives, refuses, unless_refused, GivenUnless, Delivers, Answers}
use Rattle.rule.specs.Pairs.{every}
use Rattle.models.specs.Told.{Reading, Told, held, accepting, refusing, over, departs, repeated, accepted}
use Rattle.models.specs.Reading.{table_in, reading}
use Rattle.models.proofs.Words.{told, accepted_told}
use Rattle.models.specs.Model.{Description}
use Rattle.models.specs.Text.{text_of}
use Rattle.tables.specs.Table.{table}
use Rattle.writing.specs.Calls.{text_given, back_given}
use Rattle.writing.proofs.Short.{text_short}
use Rattle.built_ins.specs.BuiltIns.{four_rows, under, none, model, built_ins, built_in, built_in_reading, built_in_given}
use Rattle.rule.specs.Rule.{way_number}
use Rattle.shims.specs.declared.Models.{Models}
use Rattle.shims.specs.Opening.{Opening, opened_by, GivenOnOpened}
use Rattle.shims.specs.Opening as shims
use Rattle.shims.proofs.Theorems.{read_written}
use Rattle.runs.specs.Bytes.{direct}
use Rattle.runs.specs.Call.{run_given, outcome}
use Rattle.runs.proofs.Longest.{longest_output}
use Rattle.places.specs.Layout.{limit}
use Rattle.barred.specs.Barred.{states_of}
use Rattle.layout.specs.Verdict.{stages, lowest_wrong, lowest_barred, verdict_of}
use Rattle.image.specs.Calls.{written_back, Rewrites}
use Rattle.image_runs.specs.Run.{Walked, ended, stopped, walked, outcome_of, stream_limit, run_as, run_over}
use Rattle.image_runs.specs.declared.Stop.{Stop}
use Rattle.image_runs.proofs.AnyImage.{longest_walk}
use Rattle.image.specs.Image.{image_of, header_of, rows_of}
use Rattle.drawing.specs.Drawing.{drawing_of}
use Rattle.drawing.specs.Calls.{drawn}
use Rattle.drawing_reader.specs.Undrawing as undrawing
use Rattle.drawing_reader.specs.Undrawing.{Undrawn, undrawn}
use Rattle.generation.specs.Generating.{ImageGiven}
use Rattle.listed.specs.Parts.{Parts, MachineListed, ModelsListed, PartsListed}
use Rattle.listed.specs.Parts as parts
use Rattle.listing.specs.Listed as listed
use Rattle.listing.specs.Listed.{ShapeListed, Listed}
use Rattle.listing.proofs.Theorems.{longest_listing}
use Rattle.demands.specs.Drawings.{DrawnAs}
use Rattle.demands.specs.Sizes.{text_out, run_out, image_run_out, image_out, drawing_out, list_out}
use Rattle.demands.specs.Opened.{up, on, OpeningRefused, no_way, upstream_refused, target_refused}
use Rattle.demands.proofs.Accepted.{gives_ran}
use Rattle.demands.proofs.Delivered.{never_too_small}
use Rattle.demands.proofs.Direct.{DirectIs, puts_out, at_4, at_5, at_6, direct_is, is_direct}
use Rattle.demands.proofs.Drawings.{machine_drawn, drawn_short, given_drawing, given_image}
use Rattle.demands.proofs.Reached.{longest_header, longest_rows, longest_machine, longest-length}
use Rattle.demands.proofs.Opening.{opening_told}
use Rattle.demands.proofs.Generating as generating
use Rattle.demands.proofs.Generating.{GenerateIs, opens, generate_is, crowded, overfull, made}
use Rattle.demands.proofs.Running as running
use Rattle.demands.proofs.Running.{RunIs, run_is}
use Rattle.demands.proofs.Threads.{gives_walk}

-- no opening is refused with 7

told_not_7 : {t : List ℕ} {r : Reading} → Told t r → r ≡ refusing Refusal.BufferTooSmall → ⊥
told_not_7 (over l) e = differ (cc)
told_not_7 (departs l n h) e = differ (cc)
told_not_7 (repeated d k l f t s) e = differ (cc)
told_not_7 (accepted d l f t s) e = differ (cc)

opening_not_7 : {number : ℕ} {upstream target : List ℕ} {why : Refusal} → OpeningRefused number upstream target why → why ≡ Refusal.BufferTooSmall → ⊥
opening_not_7 (no_way n) e = differ (cc)
opening_not_7 (upstream_refused way w t) e = told_not_7 t (ap Err e)
opening_not_7 (target_refused way w u t) e = told_not_7 t (ap Err e)

-- nor is an image; and one that is accepted is within its limit

stages_not_7 : (a b : Option ℕ) → stages a b ≡ Err Refusal.BufferTooSmall → ⊥
stages_not_7 (Some i) b e = differ (cc)
stages_not_7 None (Some i) e = differ (cc)
stages_not_7 None None e = differ (cc)

verdict_not_7 : (image : List ℕ) → verdict_of image ≡ Err Refusal.BufferTooSmall → ⊥
unfolding verdict_of
verdict_not_7 image = by (ltb limit (length image))
  where
    by : (b : Bool) → cond b (Err Refusal.OverLimit) (stages (lowest_wrong image) (lowest_barred image))
        ≡ Err Refusal.BufferTooSmall → ⊥
    by true e = differ (cc)
    by false e = stages_not_7 (lowest_wrong image) (lowest_barred image) e

accepted_short : (image : List ℕ) → verdict_of image ≡ Ok tt → length image ≤ image_out
unfolding verdict_of
accepted_short image = by (ltb limit (length image)) refl
  where
    by : (b : Bool) → ltb limit (length image) ≡ b
        → cond b (Err Refusal.OverLimit) (stages (lowest_wrong image) (lowest_barred image)) ≡ Ok tt → length image ≤ image_out
    by true e z = differ (cc)
    by false e z = omega (arith, ltb-false limit (length image) e)

-- SHIM_RUN_OUT: 8,191 bytes are enough for a direct run.
pub run_out_lem : (number : ℕ) (upstream target stream : List ℕ) {out : List ℕ} {r : Answer} {after : List ℕ}
    → Delivers (outcome number upstream target stream) out r after → run_out ≤ length out → r ≡ Err Refusal.BufferTooSmall → ⊥
run_out_lem number upstream target stream call = never_too_small call run_out (none (run_is number upstream target stream)) short
  where
    none : {g : Given} → RunIs number upstream target stream g → g ≡ refuses Refusal.BufferTooSmall → ⊥
    none (running.unopened {why = why} o) e = opening_not_7 o (cc)
    none (running.over o l) e = differ (cc)
    none (running.runs o l (puts_out a)) e = differ (cc)
    none (running.runs o l (at_4 place s)) e = differ (cc)
    none (running.runs o l (at_5 place s)) e = differ (cc)
    none (running.runs o l (at_6 place s)) e = differ (cc)

    short : (bytes : List ℕ) (f s : ℕ) → outcome number upstream target stream ≡ gives bytes f s → length bytes ≤ run_out
    short bytes f s e =
        let ran = gives_ran number upstream target stream bytes f s e in
        let m = ran.models in
        let longest = longest_output m.way (up m) (on m) stream (is_direct m stream (puts_out ran.accepts)) in
        omega (arith, longest, ran.within, ap length ran.written)

-- SHIM_IMAGE_RUN_OUT: 8,192 for a run over any image.
pub image_run_out_lem : (image : List ℕ) (start : ℕ) (stream : List ℕ) {out : List ℕ} {r : Answer} {after : List ℕ}
    → Delivers (run_over image start stream) out r after → image_run_out ≤ length out → r ≡ Err Refusal.BufferTooSmall → ⊥
unfolding run_over
image_run_out_lem image start stream call = never_too_small call image_run_out none short
  where
    by_walk : (w : Walked) → outcome_of w ≡ refuses Refusal.BufferTooSmall → ⊥
    by_walk (ended bytes f t) e = differ (cc)
    by_walk (stopped Stop.NoOperation k) e = differ (cc)
    by_walk (stopped Stop.NoSuchFence k) e = differ (cc)
    by_walk (stopped Stop.NoFenceWillDo k) e = differ (cc)

    by_stage : (a b : Bool) → cond a (cond b (outcome_of (walked image start stream)) (refuses Refusal.OverLimit)) (refuses Refusal.OutOfRange)
        ≡ refuses Refusal.BufferTooSmall → ⊥
    by_stage true true e = by_walk (walked image start stream) e
    by_stage true false e = differ (cc)
    by_stage false b e = differ (cc)

    by_verdict : (v : Verdict) → verdict_of image ≡ v → run_as image start stream v ≡ refuses Refusal.BufferTooSmall → ⊥
    by_verdict (Err why) a e =
        let seven : why ≡ Refusal.BufferTooSmall = cc in
        verdict_not_7 image (a ∙ ap Err seven)
    by_verdict (Ok tt) a e = by_stage (ltb start (states_of image)) (leb (length stream) stream_limit) e

    none : run_over image start stream ≡ refuses Refusal.BufferTooSmall → ⊥
    none e = by_verdict (verdict_of image) refl e

    short : (bytes : List ℕ) (f s : ℕ) → run_over image start stream ≡ gives bytes f s → length bytes ≤ image_run_out
    short bytes f s e =
        let walk = gives_walk image start stream e in
        omega (arith, longest_walk image start stream walk.ends_so, walk.within)

-- SHIM_IMAGE_LIMIT: 7,168 for an image that is generated,
pub image_out_lem : (number : ℕ) (upstream target : List ℕ) {out : List ℕ} {r : Answer} {after : List ℕ}
    → Answers (ImageGiven number upstream target) out r after → image_out ≤ length out → r ≡ Err Refusal.BufferTooSmall → ⊥
image_out_lem number upstream target call =
    never_too_small call.delivered image_out (none is) (λ bytes f s e. short is e)
  where
    is : GenerateIs number upstream target call.given
    is = generate_is number upstream target call.given call.right

    none : {g : Given} → GenerateIs number upstream target g → g ≡ refuses Refusal.BufferTooSmall → ⊥
    none (generating.unopened o) e = opening_not_7 o (cc)
    none (opens o (crowded h)) e = differ (cc)
    none (opens o (overfull f h)) e = differ (cc)
    none (opens o (made f h i)) e = differ (cc)

    short : {g : Given} → GenerateIs number upstream target g → {bytes : List ℕ} {f s : ℕ} → g ≡ gives bytes f s → length bytes ≤ image_out
    short (generating.unopened o) e = differ (cc)
    short (opens o (crowded h)) e = differ (cc)
    short (opens o (overfull f h)) e = differ (cc)
    short (opens o (made {image = image} f h i)) {bytes = bytes} e =
        let same : image ≡ bytes = cc in
        omega (arith, accepted_short image i.accepted, ap length same)

-- and for one that is read and written back.
pub image_back_out : (image : List ℕ) {out header : List ℕ} {r : Answer} {after : List ℕ} → Rewrites image out header r after → image_out ≤ length out
    → r ≡ Err Refusal.BufferTooSmall → ⊥
unfolding written_back
image_back_out image call =
    never_too_small call.delivered image_out (λ e. none (verdict_of image) refl e) (λ bytes f s e. short (verdict_of image) refl e)
  where
    none : (v : Verdict) → verdict_of image ≡ v → unless_refused v (λ _. gives image 0 0) ≡ refuses Refusal.BufferTooSmall → ⊥
    none (Err why) a e =
        let seven : why ≡ Refusal.BufferTooSmall = cc in
        verdict_not_7 image (a ∙ ap Err seven)
    none (Ok tt) a e = differ (cc)

    short : (v : Verdict) → verdict_of image ≡ v → {bytes : List ℕ} {f s : ℕ} → unless_refused v (λ _. gives image 0 0) ≡ gives bytes f s
        → length bytes ≤ image_out
    short (Err why) a e = differ (cc)
    short (Ok tt) a {bytes = bytes} e =
        let same : image ≡ bytes = cc in
        omega (arith, accepted_short image a, ap length same)

-- an image that is read from a drawing has no more,
pub undraw_out : (text : List ℕ) {out : List ℕ} {r : Answer} {after : List ℕ} → Answers (Undrawn text) out r after → image_out ≤ length out
    → r ≡ Err Refusal.BufferTooSmall → ⊥
undraw_out text call =
    never_too_small call.delivered image_out (λ e. none call.right e)
    (λ bytes f s e. accepted_short bytes (given_image call.right e).0.accepted)
  where
    none : {g : Given} → Undrawn text g → g ≡ refuses Refusal.BufferTooSmall → ⊥
    none (undrawing.over l) e = differ (cc)
    none (undrawing.departs l n h) e = differ (cc)
    none (undrawn l m t) e = differ (cc)

-- SHIM_DRAWING_OUT: 135,719 for a drawing.
pub draw_out : (image : List ℕ) → ((k : ℕ) → at image k < 256) → {out : List ℕ} {r : Answer} {after : List ℕ} → Delivers (drawn image) out r after
    → drawing_out ≤ length out → r ≡ Err Refusal.BufferTooSmall → ⊥
unfolding drawn
draw_out image small call =
    never_too_small call drawing_out (λ e. none (verdict_of image) refl e) (λ bytes f s e. drawn_short (given_drawing small e).0)
  where
    none : (v : Verdict) → verdict_of image ≡ v
        → unless_refused v (λ _. gives (drawing_of (header_of image) (rows_of image)) 0 0) ≡ refuses Refusal.BufferTooSmall → ⊥
    none (Err why) a e =
        let seven : why ≡ Refusal.BufferTooSmall = cc in
        verdict_not_7 image (a ∙ ap Err seven)
    none (Ok tt) a e = differ (cc)

-- SHIM_DRAWING_LIMIT: every drawing is within the limit of what is read back.
pub drawing_within : {image text : List ℕ} → DrawnAs image text → (length text ≤ drawing_out) × (drawing_out ≤ undrawing.limit)
drawing_within d = (drawn_short d, omega arith)

-- and one has as many
pub drawing_out_reached : (image : List ℕ) × (text : List ℕ) × DrawnAs image text × (length text ≡ drawing_out)
drawing_out_reached = (
  image_of longest_header longest_rows,
  drawing_of longest_header longest_rows,
  machine_drawn longest_header longest_rows longest_machine refl,
  longest-length,
)

-- no listing comes to 7

models_not_7 : (m : Models) (stream : List ℕ) → run_given m stream ≡ refuses Refusal.BufferTooSmall → ⊥
models_not_7 m stream = by_length (ltb 4096 (length stream))
  where
    by : {g : Given} → DirectIs m stream g → g ≡ refuses Refusal.BufferTooSmall → ⊥
    by (puts_out a) e = differ (cc)
    by (at_4 place s) e = differ (cc)
    by (at_5 place s) e = differ (cc)
    by (at_6 place s) e = differ (cc)

    by_length : (b : Bool) → cond b (refuses Refusal.OverLimit) (direct m.way (up m) (on m) stream) ≡ refuses Refusal.BufferTooSmall → ⊥
    by_length true e = differ (cc)
    by_length false e = by (direct_is m stream) e

machine_not_7 : {m : Models} {output : List ℕ} {g : Given} → MachineListed m output g → g ≡ refuses Refusal.BufferTooSmall → ⊥
machine_not_7 (parts.crowded h) e = differ (cc)
machine_not_7 (parts.overfull f h) e = differ (cc)
machine_not_7 (parts.made f k d) e = differ (cc)

run_not_7 : {m : Models} {stream : List ℕ} {g : Given} → ModelsListed m stream g → g ≡ refuses Refusal.BufferTooSmall → ⊥
run_not_7 {m} {stream} (parts.halts {why = why} r) e =
    let seven : why ≡ Refusal.BufferTooSmall = cc in
    models_not_7 m stream (r ∙ ap refuses seven)
run_not_7 (parts.runs r h) e = machine_not_7 h e

parts_not_7 : (p : Parts) (g : Given) → PartsListed p g → g ≡ refuses Refusal.BufferTooSmall → ⊥
parts_not_7 p g = by opening refl
  where
    opening : Opening
    opening = opened_by (Some p.way) p.upstream p.target

    by_way : {r : Option Way} → r ≡ Some p.way → {why : Refusal} → opening ≡ shims.refusing why → opened_by r p.upstream p.target ≡ shims.refusing why
    by_way w e = ap (λ (r : Option Way). opened_by r p.upstream p.target) w ∙ e

    by : (o : Opening) → opening ≡ o → GivenOnOpened o (λ (m : Models). ModelsListed m p.stream) g → g ≡ refuses Refusal.BufferTooSmall → ⊥
    by (Err why) o h e =
        let seven : why ≡ Refusal.BufferTooSmall = cc in
        opening_not_7 (opening_told (way_number p.way) p.upstream p.target (by_way (read_written p.way) o)) seven
    by (Ok m) o h e = run_not_7 h e

shape_not_7 : {o : Option Parts} {g : Given} → ShapeListed o g → g ≡ refuses Refusal.BufferTooSmall → ⊥
shape_not_7 listed.shapeless e = differ (cc)
shape_not_7 (listed.shaped {p = p} {g = g} h) e = parts_not_7 p g h e

listed_not_7 : {input : List ℕ} {g : Given} → Listed input g → g ≡ refuses Refusal.BufferTooSmall → ⊥
listed_not_7 (listed.over l) e = differ (cc)
listed_not_7 (listed.within l h) e = shape_not_7 h e

-- SHIM_LIST_OUT: 67,261 for a listing.
pub list_out_lem : (input : List ℕ) {out : List ℕ} {r : Answer} {after : List ℕ} → Answers (Listed input) out r after → list_out ≤ length out
    → r ≡ Err Refusal.BufferTooSmall → ⊥
list_out_lem input call = never_too_small call.delivered list_out (λ e. listed_not_7 call.right e)
    (λ bytes f s e. longest_listing (subst (Listed input) e call.right))

-- SHIM_TEXT_OUT: 739 for a model's text that is read and written back,
pub text_out_lem : (text : List ℕ) {out : List ℕ} {r : Answer} {after : List ℕ} → Delivers (back_given text) out r after → text_out ≤ length out
    → r ≡ Err Refusal.BufferTooSmall → ⊥
text_out_lem text call = never_too_small call text_out (λ e. none (reading text) refl e) (λ bytes f s e. short (reading text) refl e)
  where
    none : (r : Reading) → reading text ≡ r → unless_refused r (λ _. gives text 0 0) ≡ refuses Refusal.BufferTooSmall → ⊥
    none (Err why) a e =
        let seven : why ≡ Refusal.BufferTooSmall = cc in
        told_not_7 (told text) (a ∙ ap Err seven)
    none (Ok m) a e = differ (cc)

    short : (r : Reading) → reading text ≡ r → {bytes : List ℕ} {f s : ℕ} → unless_refused r (λ _. gives text 0 0) ≡ gives bytes f s
        → length bytes ≤ text_out
    short (Err why) a e = differ (cc)
    short (Ok m) a {bytes = bytes} e =
        let same : text ≡ bytes = cc in
        let d = accepted_told (told text) a in
        omega (arith, text_short d.0 d.1, ap length d.2, ap length same)

-- and for a built-in model's: one computed test over all of them.
all_short : every (λ (d : Description). leb (length (text_of d)) text_out) built_ins ≡ true
unfolding built_ins four_rows under table_in table
all_short = refl

both : (b : Bool) {x : Bool} → cond b x false ≡ true → (b ≡ true) × (x ≡ true)
both true e = (refl, e)
both false e = true_false (sym e)

each_short : (ds : List Description) → every (λ (d : Description). leb (length (text_of d)) text_out) ds ≡ true → (n : ℕ) (default : Description)
    → length (text_of default) ≤ text_out → length (text_of (get_or ds n default)) ≤ text_out
each_short [] e n default h = h
each_short (d ∷ ds) e zero default h = leb-true (length (text_of d)) text_out (both (leb (length (text_of d)) text_out) e).0
each_short (d ∷ ds) e (suc n) default h = each_short ds (both (leb (length (text_of d)) text_out) e).1 n default h

built_short : (n : ℕ) → length (text_of (built_in n)) ≤ text_out
unfolding built_in four_rows table_in table
built_short n = each_short built_ins all_short n (model "" none []) (omega arith)

pub builtin_out : (number : ℕ) {out : List ℕ} {r : Answer} {after : List ℕ} → Delivers (built_in_given number) out r after → text_out ≤ length out
    → r ≡ Err Refusal.BufferTooSmall → ⊥
unfolding built_in_reading
builtin_out number call = never_too_small call text_out (no_7 (ltb 15 number)) (λ bytes f s e. short (ltb 15 number) e)
  where
    given : Bool → Given
    given b = text_given (cond b (refusing Refusal.OutOfRange) (accepting (held (built_in number)))) (text_of (built_in number))

    no_7 : (b : Bool) → given b ≡ refuses Refusal.BufferTooSmall → ⊥
    no_7 true e = differ (cc)
    no_7 false e = differ (cc)

    short : (b : Bool) {bytes : List ℕ} {f s : ℕ} → given b ≡ gives bytes f s → length bytes ≤ text_out
    short true e = differ (cc)
    short false {bytes = bytes} e =
        let same : text_of (built_in number) ≡ bytes = cc in
        omega (arith, built_short number, ap length same)
