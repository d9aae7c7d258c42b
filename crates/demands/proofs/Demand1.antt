-- Demand 1: "Every public call takes every text, stream, image, number and buffer, of length nought too, stays within bounds and ends." That is
-- what a proof of a function in Rattle says, and no public function has a `requires`. "Bad input is refused by the number and place that document
-- 01 gives; a refused call writes nothing": here, of the answers and the buffers. Assumes nothing.
use Rattle.std.proofs.Common.{Ok, Err}
use Prim.Native.Nat.{ℕ, ◌≤◌}
use mathlib.Core.Path.{◌≡◌, refl, ap, subst}
use mathlib.Core.Logic.{◌↔◌}
use mathlib.Core.List.{List, [], ◌∷◌, map}
use native.Mathlib.Omega.{arith}
use lib.ListN.{length, take, drop, length-map}
use Rattle.comparison.specs.Comparison.{Compared, comparing}
use Rattle.ground.proofs.Truths.{differ}
use Rattle.answers.specs.declared.Refusal.{Refusal}
use Rattle.answers.specs.Answer.{Answer, wrote, number_of, place_of, numbers_of, Verdict}
use Rattle.answers.specs.Given.{Given, refuses, Delivers, Answers}
use Rattle.operations.specs.Operation.{byte_of}
use Rattle.shims.specs.declared.Models.{Models}
use Rattle.runs.specs.Call.{outcome}
use Rattle.demands.specs.DirectRuns.{over_limit, no_operation, no_such_fence, no_fence_will_do, RunRefused, opening, at_stream, too_small}
use Rattle.layout.specs.Verdict.{verdict_of}
use Rattle.image.specs.Calls.{written_back, Rewrites}
use Rattle.image_runs.specs.Run.{run_over}
use Rattle.drawing.specs.Calls.{drawn}
use Rattle.drawing_reader.specs.Undrawing.{Undrawn}
use Rattle.writing.specs.Calls.{back_given}
use Rattle.built_ins.specs.BuiltIns.{built_in_given}
use Rattle.host.specs.Border.{number_in, compared_as, relation_of, TellsRelation}
use Rattle.generation.specs.Generating.{ImageGiven}
use Rattle.listing.specs.Listed.{Listed}
use Rattle.demands.specs.Listings.{ListRefused}
use Rattle.demands.proofs.Lists.{withheld_listing, listing_withheld}
use Rattle.demands.specs.ModelCalls.{ModelRefused, BuiltInRefused, TextsCompare}
use Rattle.demands.proofs.Models.{model_told, told_model, built_in_told, told_built_in, compared_told, told_compared}
use Rattle.demands.specs.ImageCalls.{ImageRefused, ReadRefused, ImageRunRefused}
use Rattle.demands.proofs.Images.{verdict_told, told_verdict, back_told, told_back, run_told, told_run}
use Rattle.demands.specs.Drawings.{DrawRefused, UndrawRefused}
use Rattle.demands.proofs.Drawings.{draw_told, told_draw, undraw_told, told_undraw}
use Rattle.demands.specs.Generated as generate
use Rattle.demands.specs.Generated.{GenerateRefused, situations, states, ImageExceeds}
use Rattle.demands.proofs.Delivered.{done_gave, Withheld, refused, exceeds, refused_withheld, withheld_refused}
use Rattle.demands.proofs.Direct.{puts_out, at_4, at_5, at_6}
use Rattle.demands.proofs.Generating as generating
use Rattle.demands.proofs.Generating.{MachineIs, crowded, overfull, made, GenerateIs, opens, generate_is, unopened_is, same_length}
use Rattle.demands.proofs.Generating.{given_models, as_8, as_9, machine_is}
use Rattle.demands.proofs.Running.{RunIs, unopened, over, runs, run_is, is_run_lem}

-- A refused call tells its number and place and zeros, and leaves every byte of the buffer as it was: of every call that writes, whatever it has to
-- give.
pub refused_writes_nothing : {given : Given} {out after : List ℕ} {why : Refusal} → Delivers given out (Err why) after
    → (numbers_of (Err why) ≡ number_of why ∷ place_of why ∷ 0 ∷ 0 ∷ 0 ∷ []) × (after ≡ out)
refused_writes_nothing d = (refl, (refused_withheld d).0)

-- And a call that succeeds changes the first bytes alone, as many as it tells: bytes past those written stay.
pub done_writes_the_front : {given : Given} {out after : List ℕ} {written fences state : ℕ}
    → Delivers given out (Ok (wrote written fences state)) after
    → (numbers_of (Ok (wrote written fences state)) ≡ 0 ∷ 0 ∷ written ∷ fences ∷ state ∷ [])
    × (written ≤ length out) × (length (take written after) ≡ written) × (drop written after ≡ drop written out)
done_writes_the_front d =
    let gave = done_gave d in
    (refl, gave.fits, gave.size, gave.rest)

-- A direct run is refused exactly when 01 says, with the place that it gives.
module _ {number : ℕ} {upstream target stream out : List ℕ} {r : Answer} {after : List ℕ}
    (call : Delivers (outcome number upstream target stream) out r after) where
  pub run_refused_exactly_when : (why : Refusal) → (r ≡ Err why) ↔ RunRefused number upstream target stream (length out) why
  run_refused_exactly_when why = (
    λ e. given_told (refused_withheld (subst (λ (x : Answer). Delivers (outcome number upstream target stream) out x after) e call)).1,
    λ h. withheld_refused call (told_given h),
  )
    where
      as_told : {v w : Refusal} → RunRefused number upstream target stream (length out) v → refuses v ≡ refuses w
          → RunRefused number upstream target stream (length out) w
      as_told {v} {w} h e =
          let same : v ≡ w = cc in
          subst (RunRefused number upstream target stream (length out)) same h

      by_run : {g : Given} → RunIs number upstream target stream g → {w : Refusal} → Withheld g (length out) w
          → RunRefused number upstream target stream (length out) w
      by_run (unopened o) (refused e) = as_told (opening o) e
      by_run (unopened o) (exceeds e l) = differ (cc)
      by_run (over o k) (refused e) = as_told (at_stream o (over_limit k)) e
      by_run (over o k) (exceeds e l) = differ (cc)
      by_run (runs o k (at_4 place s)) (refused e) = as_told (at_stream o (no_operation place k s)) e
      by_run (runs o k (at_4 place s)) (exceeds e l) = differ (cc)
      by_run (runs o k (at_5 place s)) (refused e) = as_told (at_stream o (no_such_fence place k s)) e
      by_run (runs o k (at_5 place s)) (exceeds e l) = differ (cc)
      by_run (runs o k (at_6 place s)) (refused e) = as_told (at_stream o (no_fence_will_do place k s)) e
      by_run (runs o k (at_6 place s)) (exceeds e l) = differ (cc)
      by_run (runs o k (puts_out a)) (refused e) = differ (cc)
      by_run (runs o k (puts_out {output = output} a)) (exceeds {bytes = bytes} e l) =
          let same : map byte_of output ≡ bytes = cc in
          too_small o k (record { output = output; accepts = a; exceeds = omega (arith, l, ap length same, length-map output byte_of) })

      given_told : {w : Refusal} → Withheld (outcome number upstream target stream) (length out) w
          → RunRefused number upstream target stream (length out) w
      given_told w = by_run (run_is number upstream target stream) w

      told_given : {w : Refusal} → RunRefused number upstream target stream (length out) w
          → Withheld (outcome number upstream target stream) (length out) w
      told_given (opening o) = refused (is_run_lem number upstream target stream (unopened o))
      told_given (at_stream o (over_limit l)) = refused (is_run_lem number upstream target stream (over o l))
      told_given (at_stream o (no_operation place l s)) = refused (is_run_lem number upstream target stream (runs o l (at_4 place s)))
      told_given (at_stream o (no_such_fence place l s)) = refused (is_run_lem number upstream target stream (runs o l (at_5 place s)))
      told_given (at_stream o (no_fence_will_do place l s)) = refused (is_run_lem number upstream target stream (runs o l (at_6 place s)))
      told_given (too_small o l x) =
          exceeds (is_run_lem number upstream target stream (runs o l (puts_out x.accepts)))
          (omega (arith, x.exceeds, length-map x.output byte_of))

-- Generating is refused exactly when 01 says.
module _ (number : ℕ) (upstream target : List ℕ) {out : List ℕ} {r : Answer} {after : List ℕ}
    (call : Answers (ImageGiven number upstream target) out r after) where
  pub generate_refused_exactly_when : (why : Refusal) → (r ≡ Err why) ↔ GenerateRefused number upstream target (length out) why
  generate_refused_exactly_when why = (
    λ e.
        by_call (generate_is number upstream target call.given call.right)
        (refused_withheld (subst (λ (x : Answer). Delivers call.given out x after) e call.delivered)).1,
    λ h. withheld_refused call.delivered (told_given h),
  )
    where
      as_told : {v w : Refusal} → GenerateRefused number upstream target (length out) v → refuses v ≡ refuses w
          → GenerateRefused number upstream target (length out) w
      as_told {v} {w} h e =
          let same : v ≡ w = cc in
          subst (GenerateRefused number upstream target (length out)) same h

      by_call : {g : Given} → GenerateIs number upstream target g → {w : Refusal} → Withheld g (length out) w
          → GenerateRefused number upstream target (length out) w
      by_call (generating.unopened o) (refused e) = as_told (generate.opening o) e
      by_call (generating.unopened o) (exceeds e l) = differ (cc)
      by_call (opens o (crowded h)) (refused e) = as_told (situations o h) e
      by_call (opens o (crowded h)) (exceeds e l) = differ (cc)
      by_call (opens o (overfull f h)) (refused e) = as_told (states o f h) e
      by_call (opens o (overfull f h)) (exceeds e l) = differ (cc)
      by_call (opens o (made f h i)) (refused e) = differ (cc)
      by_call (opens o (made {image = image} f h i)) (exceeds {bytes = bytes} e l) =
          let same : image ≡ bytes = cc in
          generate.too_small o
          (record { few_situations = f; few_states = h; bytes = image; image = i; exceeds = omega (arith, l, ap length same) })

      small : {m : Models} {g : Given} → ImageExceeds m (length out) → MachineIs m g → Withheld g (length out) Refusal.BufferTooSmall
      small x (crowded h) = absurd (x.few_situations h)
      small x (overfull f h) = absurd (x.few_states h)
      small x (made f h i) = exceeds refl (omega (arith, x.exceeds, same_length i x.image))

      told_given : {w : Refusal} → GenerateRefused number upstream target (length out) w → Withheld call.given (length out) w
      told_given (generate.opening o) = refused (unopened_is o call.right)
      told_given (situations o h) = refused ((as_8 o ((given_models o).0 call.right)).1 h)
      told_given (states o f h) = refused ((as_9 o ((given_models o).0 call.right)).1 (f, h))
      told_given (generate.too_small o x) = small x (machine_is o ((given_models o).0 call.right))

-- A listing is refused exactly when 01 says.
pub list_refused_exactly_when : (input : List ℕ) {out : List ℕ} {r : Answer} {after : List ℕ} → Answers (Listed input) out r after → (why : Refusal)
    → (r ≡ Err why) ↔ ListRefused input (length out) why
list_refused_exactly_when input {out} {after = after} call why = (
  λ e.
      withheld_listing call.right
      (refused_withheld (subst (λ (x : Answer). Delivers call.given out x after) e call.delivered)).1,
  λ h. withheld_refused call.delivered (listing_withheld call.right h),
)

-- An image is refused exactly when 01 says, and so are the calls that read one and write it back, and run over one.
pub image_refused_exactly_when : (image : List ℕ) (why : Refusal) → (verdict_of image ≡ Err why) ↔ ImageRefused image why
image_refused_exactly_when image why = (verdict_told image, told_verdict image)

pub image_read_refused_exactly_when : (image : List ℕ) {out header : List ℕ} {r : Answer} {after : List ℕ} → Rewrites image out header r after
    → (why : Refusal) → (r ≡ Err why) ↔ ReadRefused image (length out) why
image_read_refused_exactly_when image {out} {after = after} call why = (
  λ e. back_told image (length out) (refused_withheld (subst (λ (x : Answer). Delivers (written_back image) out x after) e call.delivered)).1,
  λ h. withheld_refused call.delivered (told_back image (length out) h),
)

-- The four numbers of the header are zeros then.
pub image_read_refused_header : (image : List ℕ) {out header after : List ℕ} {why : Refusal} → Rewrites image out header (Err why) after
    → header ≡ 0 ∷ 0 ∷ 0 ∷ 0 ∷ []
image_read_refused_header image call = call.header_told

pub image_run_refused_exactly_when : (image : List ℕ) (start : ℕ) (stream : List ℕ) {out : List ℕ} {r : Answer} {after : List ℕ}
    → Delivers (run_over image start stream) out r after → (why : Refusal)
    → (r ≡ Err why) ↔ ImageRunRefused image start stream (length out) why
image_run_refused_exactly_when image start stream {out} {after = after} call why = (
  λ e. run_told image start stream (length out)
      (refused_withheld (subst (λ (x : Answer). Delivers (run_over image start stream) out x after) e call)).1,
  λ h. withheld_refused call (told_run image start stream (length out) h),
)

-- An image that is drawn is refused exactly when 01 says of images, or has more to give than fits,
pub draw_refused_exactly_when : (image : List ℕ) {out : List ℕ} {r : Answer} {after : List ℕ} → Delivers (drawn image) out r after
    → (why : Refusal) → (r ≡ Err why) ↔ DrawRefused image (length out) why
draw_refused_exactly_when image {out} {after = after} call why = (
  λ e. draw_told image (length out) (refused_withheld (subst (λ (x : Answer). Delivers (drawn image) out x after) e call)).1,
  λ h. withheld_refused call (told_draw image (length out) h),
)

-- and a drawing that is read back exactly when 02 says.
pub undraw_refused_exactly_when : (text : List ℕ) {out : List ℕ} {r : Answer} {after : List ℕ} → Answers (Undrawn text) out r after
    → (why : Refusal) → (r ≡ Err why) ↔ UndrawRefused text (length out) why
undraw_refused_exactly_when text {out} {after = after} call why = (
  λ e. undraw_told call.right (refused_withheld (subst (λ (x : Answer). Delivers call.given out x after) e call.delivered)).1,
  λ h. withheld_refused call.delivered (told_undraw call.right h),
)

-- A model's text that is read and written back, and a built-in model, are refused exactly when 01 says.
pub model_refused_exactly_when : (text : List ℕ) {out : List ℕ} {r : Answer} {after : List ℕ} → Delivers (back_given text) out r after
    → (why : Refusal)
    → (r ≡ Err why) ↔ ModelRefused text (length out) why
model_refused_exactly_when text {out} {after = after} call why = (
  λ e. model_told text (length out) (refused_withheld (subst (λ (x : Answer). Delivers (back_given text) out x after) e call)).1,
  λ h. withheld_refused call (told_model text (length out) h),
)

pub built_in_refused_exactly_when : (number : ℕ) {out : List ℕ} {r : Answer} {after : List ℕ} → Delivers (built_in_given number) out r after
    → (why : Refusal) → (r ≡ Err why) ↔ BuiltInRefused number (length out) why
built_in_refused_exactly_when number {out} {after = after} call why = (
  λ e. built_in_told number (length out) (refused_withheld (subst (λ (x : Answer). Delivers (built_in_given number) out x after) e call)).1,
  λ h. withheld_refused call (told_built_in number (length out) h),
)

-- Two models compare as 01 says, refusals too, and in no other way: the number that the call returns, its relation and its five numbers are those of
-- the one thing that the two texts compare as.
pub compare_told : (first second : List ℕ) {number relation : ℕ} {numbers : List ℕ} → TellsRelation (comparing first second) number relation numbers
    → (compared : Compared) × TextsCompare first second compared × ((other : Compared) → TextsCompare first second other → compared ≡ other)
    × (number ≡ number_in (compared_as compared)) × (relation ≡ relation_of compared) × (numbers ≡ numbers_of (compared_as compared))
compare_told first second call = (
  comparing first second,
  compared_told first second,
  λ other h. told_compared first second h,
  call.returned,
  call.set,
  call.told,
)
