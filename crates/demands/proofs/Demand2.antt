-- Demand 2: "Tables and strengths are those of document 002. The output carries the input's accesses in order. Every pair that the upstream model
-- orders is kept at that strength by the target's default or by one fence between the two. A fence stands before an access exactly when a pair
-- ending there would otherwise fall short; which fence, and when none will do, is as 01 says. A generated machine answers like this rule on every
-- stream, with the fewest states, and its image reads and writes back unchanged." Of the calls' answers and the bytes in their buffers; each by
-- what the call gives, and the theorems on that. Assumes nothing.
use Rattle.std.proofs.Common.{Ok, Err}
use Prim.Native.Nat.{ℕ, ◌<◌, ◌≤◌}
use mathlib.Core.Path.{◌≡◌, sym, ap, subst, ◌∙◌}
use mathlib.Core.Logic.{◌↔◌}
use mathlib.Core.List.{List, [], ◌∷◌}
use lib.ListN.{length, take}
use Rattle.ground.specs.Bytes.{at}
use Rattle.answers.specs.declared.Refusal.{Refusal}
use Rattle.answers.specs.Answer.{Answer, wrote, Verdict}
use Rattle.answers.specs.Given.{gives, unless_refused, Delivers, Answers}
use Rattle.operations.specs.Operation.{fence_bytes}
use Rattle.rule.specs.Stream.{Stream}
use Rattle.rule.specs.Rule.{way_number, done, onward, run}
use Rattle.shims.specs.declared.Models.{Models}
use Rattle.runs.specs.Call.{outcome}
use Rattle.mealy.specs.Runs.{Machine, reached}
use Rattle.mealy.specs.Order.{◌≺◌}
use Rattle.mealy.proofs.Unique as mealy
use Rattle.mealy.proofs.Unique.{described_unique}
use Rattle.machine.specs.Shim.{letters_of}
use Rattle.machine.specs.Spoken.{Letters, operations, machine_of, spoken, AnswersLikeTheRule}
use Rattle.machine.specs.Counted.{SameState, OnStates, FirstArrival}
use Rattle.machine.proofs.Theorems as machine
use Rattle.layout.specs.Verdict.{verdict_of}
use Rattle.image.specs.Calls.{written_back, header_as, Rewrites}
use Rattle.image_runs.specs.Run.{run_over}
use Rattle.texts.specs.NamePart.{NameFormed}
use Rattle.drawing.specs.Calls.{drawn}
use Rattle.drawing_reader.specs.Undrawing.{Undrawn}
use Rattle.image_runs.proofs.AnyImage as any
use Rattle.models.specs.declared.model.Model.{Model}
use Rattle.models.specs.Text.{text_of}
use Rattle.models.specs.Told.{Told, accepting}
use Rattle.writing.specs.Calls.{back_given}
use Rattle.built_ins.specs.BuiltIns.{built_in, built_in_given}
use Rattle.generation.specs.Generating.{ImageGiven}
use Rattle.demands.proofs.Models.{told_given, in_range_lem}
use Rattle.listing.specs.Listed.{Listed}
use Rattle.demands.specs.Streams.{StreamIn, Own}
use Rattle.demands.specs.Opened.{Opened, up, on}
use Rattle.demands.specs.DirectRuns.{RunDone}
use Rattle.demands.specs.Generated.{GenerateDone}
use Rattle.demands.specs.Images.{entry_answer, MinimalImage, state_after, SameFuture, Thread, fresh, block, ThreadDone, AsOneStream, ending_in}
use Rattle.demands.specs.Drawings.{DrawnAs, Drawing, DrawDone, UndrawDone, with_names, Renamed}
use Rattle.demands.specs.Listings.{ListDone}
use Rattle.demands.proofs.Accepted as accepted
use Rattle.demands.proofs.Delivered.{done_gave, gave_done, gave_bytes}
use Rattle.demands.proofs.Drawings.{drawing_given, image_given, undrawn_accepted, accepted_undrawn, drawing_done, undrawing_done}
use Rattle.demands.proofs.Renaming as renaming
use Rattle.demands.proofs.Generating as generating
use Rattle.demands.proofs.Listing as listing
use Rattle.demands.proofs.Reading.{reads_one}
use Rattle.demands.proofs.Threads as threads

-- An accepted direct run has written a right output.
pub run_done : {number : ℕ} {upstream target stream out : List ℕ} {written fences state : ℕ} {after : List ℕ}
    → Delivers (outcome number upstream target stream) out (Ok (wrote written fences state)) after
    → RunDone number upstream target stream out written fences state after
run_done = accepted.done_right

-- An accepted call of generating has written the image of the minimal machine.
pub generate_done : (number : ℕ) (upstream target : List ℕ) {out : List ℕ} {written fences state : ℕ} {after : List ℕ}
    → Answers (ImageGiven number upstream target) out (Ok (wrote written fences state)) after
    → GenerateDone number upstream target out written fences state after
generate_done number upstream target = generating.image_done number upstream target

-- The machine, of the image's bytes.
module _ {m : Models} {image : List ℕ} (i : MinimalImage m image) where
  -- It answers like the rule, on every stream of its letters, of any length.
  pub image_answers_like_the_rule : AnswersLikeTheRule m.way (up m) (on m) (machine_of (up m) (entry_answer image))
  image_answers_like_the_rule = machine.runs_like_the_rule m.way (up m) (on m) (threads.image_few i) i.described

  -- Byte 4 is the fewest: any machine on k states, of whatever kind they are, that answers like the rule has at least as many.
  pub image_fewest_states : {S : Type 0} (rival : Machine S Stream) (k : ℕ) → OnStates (up m) rival k
      → AnswersLikeTheRule m.way (up m) (on m) rival → at image 4 ≤ k
  image_fewest_states = machine.fewest_states m.way (up m) (on m) (threads.image_few i) i.described

  -- Its states are numbered by first arrival: shorter streams first, then by operation.
  pub image_numbered_by_first_arrival : (firsts : ℕ → List ℕ)
      × ((s : ℕ) → s < at image 4 → FirstArrival m.way (up m) (on m) (machine_of (up m) (entry_answer image)) s (firsts s))
      × ((s t : ℕ) → s < t → t < at image 4 → firsts s ≺ firsts t)
  image_numbered_by_first_arrival = machine.numbered_by_first_arrival m.way (up m) (on m) (threads.image_few i) i.described

  -- A run from a state is the continuation of any accepted stream that leads there.
  pub image_run_from_a_state : (s : ℕ) (v : List ℕ) → Letters (letters_of (up m)) v → (out : Stream)
      → run m.way (up m) (on m) (operations v) ≡ done out → reached (machine_of (up m) (entry_answer image)) v ≡ s
      → (w : List ℕ) → Letters (letters_of (up m)) w
      → spoken (machine_of (up m) (entry_answer image)) s w ≡ onward m.way (up m) (on m) (operations v) out (operations w)
  image_run_from_a_state = machine.run_from_a_state m.way (up m) (on m) (threads.image_few i) i.described

  -- The end state of an image run from 0 is the state of the stream.
  pub image_run_leads : (stream : List ℕ) {out : List ℕ} {written fences state : ℕ} {after : List ℕ}
      → Delivers (run_over image 0 stream) out (Ok (wrote written fences state)) after
      → (input : Stream) → StreamIn stream input → state ≡ state_after m image input
  image_run_leads stream call input reads =
      let d = threads.thread_done i (block fresh stream call) in
      d.state_is ∙ ap (state_after m image) (reads_one stream d.input input d.input_read reads)

  -- Two accepted streams lead to the same state exactly when every continuation gets the same further output and refusals: of threads, and so of
  -- single calls.
  pub same_state_exactly_when : {s t n n' : ℕ} {given given' put put' : List ℕ} → Thread image s given put n → Thread image t given' put' n'
      → (v w out out' : Stream) → StreamIn given v → StreamIn given' w
      → run m.way (up m) (on m) v ≡ done out → run m.way (up m) (on m) w ≡ done out'
      → (s ≡ t) ↔ SameFuture m v out w out'
  same_state_exactly_when {given = given} {given' = given'} a b v w out out' p q e f =
      let c = threads.thread_done i a in
      let d = threads.thread_done i b in
      let v-is = reads_one given c.input v c.input_read p in
      let w-is = reads_one given' d.input w d.input_read q in
      threads.same_state i v w out out' (c.state_is ∙ ap (state_after m image) v-is) (d.state_is ∙ ap (state_after m image) w-is)
      (subst (Own (up m)) v-is c.input_own) (subst (Own (up m)) w-is d.input_own) e f

  -- A run over the image from state 0 gives the direct run's answer and leaves the direct run's bytes, on every stream, refusals too; only the end
  -- state, which is one of the image's, a direct run does not tell.
  pub image_run_is_direct : {number : ℕ} {upstream target : List ℕ} → Opened number upstream target m
      → (stream : List ℕ) {out : List ℕ} {r r' : Answer}
      {after after' : List ℕ} → Delivers (run_over image 0 stream) out r after → Delivers (outcome number upstream target stream) out r' after'
      → (state : ℕ) × (state < at image 4) × (r ≡ ending_in state r') × (after ≡ after')
  image_run_is_direct = threads.run_over_is_direct i

  -- A thread passed through the image block by block, for as long as it likes, is one run of the rule over all of it: the same accesses, every pair
  -- kept across blocks too, fences exactly where they are needed, their count the sum of what was told.
  pub thread_done : {state inserted : ℕ} {given put : List ℕ} → Thread image state given put inserted → ThreadDone m image state given put inserted
  thread_done = threads.thread_done i

  -- And its next block gets what the one stream would get, refusals too.
  pub as_one_stream : {state inserted : ℕ} {given put : List ℕ} → Thread image state given put inserted → (bytes : List ℕ) → length bytes ≤ 4096
      → {out after : List ℕ} {r : Answer} → Delivers (run_over image state bytes) out r after → AsOneStream m image given put bytes out r after
  as_one_stream = threads.as_one_stream i

-- Any accepted image, handmade too: the fences that a run tells are the fence bytes that it wrote, and it ends in one of the image's states.
pub any_image_run : (image : List ℕ) → ((k : ℕ) → at image k < 256) → (start : ℕ) (stream : List ℕ) {out : List ℕ} {written fences state : ℕ}
    {after : List ℕ} → Delivers (run_over image start stream) out (Ok (wrote written fences state)) after
    → (fences ≡ fence_bytes (take written after)) × (state < at image 4)
any_image_run image bytes start stream call =
    let walk = threads.gives_walk image start stream (done_gave call).is in (
      any.counts_fence_bytes image bytes walk.accepted walk.start stream walk.ends_so,
      any.ends_below image bytes walk.accepted walk.start stream walk.ends_so,
    )

-- An image that is accepted reads and writes back unchanged, with its header told.
pub image_written_back : (image : List ℕ) → verdict_of image ≡ Ok tt → {out header after : List ℕ} {r : Answer}
    → Rewrites image out header r after
    → length image ≤ length out
    → (r ≡ Ok (wrote (length image) 0 0)) × (take (length image) after ≡ image)
    × (header ≡ at image 3 ∷ at image 4 ∷ at image 5 ∷ at image 6 ∷ [])
unfolding written_back
image_written_back image accepted call l =
    let is : written_back image ≡ gives image 0 0 = ap (λ (v : Verdict). unless_refused v (λ _. gives image 0 0)) accepted in
    let done = gave_done call.delivered is l in
    (done, gave_bytes call.delivered is l, call.header_told ∙ ap (header_as image) done)

-- An image that was drawn has its drawing in the buffer, and a drawing that was read back the image that it is the drawing of.
pub draw_done : (image : List ℕ) → ((k : ℕ) → at image k < 256) → {out : List ℕ} {written fences state : ℕ} {after : List ℕ}
    → Delivers (drawn image) out (Ok (wrote written fences state)) after → DrawDone image out written fences state after
draw_done = drawing_done

pub undraw_done : (text : List ℕ) {out : List ℕ} {written fences state : ℕ} {after : List ℕ}
    → Answers (Undrawn text) out (Ok (wrote written fences state)) after → UndrawDone text out written fences state after
undraw_done = undrawing_done

-- From image to drawing to image: what was drawn is read back as the image's own bytes.
pub drawn_back : (image : List ℕ) → ((k : ℕ) → at image k < 256) → {out : List ℕ} {written fences state : ℕ} {after : List ℕ}
    → Delivers (drawn image) out (Ok (wrote written fences state)) after
    → {back : List ℕ} {r : Answer} {back-after : List ℕ} → Answers (Undrawn (take written after)) back r back-after → length image ≤ length back
    → (r ≡ Ok (wrote (length image) 0 0)) × (take (length image) back-after ≡ image)
drawn_back image bytes drew call l =
    let is = image_given (drawing_done image bytes drew).drawn call.right in
    (gave_done call.delivered is l, gave_bytes call.delivered is l)

-- From drawing to image to drawing: an image that was read from a drawing is drawn as that text.
pub undrawn_back : (text : List ℕ) {out : List ℕ} {written fences state : ℕ} {after : List ℕ}
    → Answers (Undrawn text) out (Ok (wrote written fences state)) after
    → {back : List ℕ} {r : Answer} {back-after : List ℕ} → Delivers (drawn (take written after)) back r back-after → length text ≤ length back
    → (r ≡ Ok (wrote (length text) 0 0)) × (take (length text) back-after ≡ text)
undrawn_back text read call l =
    let is = drawing_given (undrawing_done text read).drawn in
    (gave_done call is l, gave_bytes call is l)

-- A text is read back, if the image fits, exactly when it is the drawing of some image that reads.
pub undraw_accepts_exactly : (text : List ℕ) {out : List ℕ} {r : Answer} {after : List ℕ} → Answers (Undrawn text) out r after
    → ((why : Refusal) → r ≡ Err why → why ≡ Refusal.BufferTooSmall) ↔ Drawing text
undraw_accepts_exactly text call = (undrawn_accepted call, λ (image, d). accepted_undrawn call d)

-- A drawing has two names; where others are put in their place and nothing else is changed, it is read back as the image with these names, and
-- nothing else is changed.
pub drawing_names : {image text : List ℕ} → DrawnAs image text
    → (upstream target rest : List ℕ) × NameFormed upstream × NameFormed target × (text ≡ with_names upstream target rest)
drawing_names = renaming.drawing_names

pub names_changed : {image : List ℕ} (upstream target upstream' target' rest : List ℕ) → NameFormed upstream → NameFormed target
    → NameFormed upstream' → NameFormed target' → DrawnAs image (with_names upstream target rest)
    → {out : List ℕ} {r : Answer} {after : List ℕ} → Answers (Undrawn (with_names upstream' target' rest)) out r after → length image ≤ length out
    → (r ≡ Ok (wrote (length image) 0 0)) × Renamed upstream' target' (take (length image) after) image
names_changed {image} upstream target upstream' target' rest fu ft fu' ft' d {out} {after = after} call l =
    let new = renaming.renamed_drawn upstream target upstream' target' rest fu ft fu' ft' d in
    let other : List ℕ = new.0 in
    let size : length other ≡ length image = new.2.size in
    let is = image_given new.1 call.right in
    let fits : length other ≤ length out = subst (λ (n : ℕ). n ≤ length out) (sym size) l in (
      gave_done call.delivered is fits ∙ ap (λ (n : ℕ). Ok (wrote n 0 0)) size,
      subst (λ (x : List ℕ). Renamed upstream' target' x image)
          (sym (gave_bytes call.delivered is fits) ∙ ap (λ (n : ℕ). take n after) size) new.2,
    )

-- A listing's lines are the machine's, `out` is the direct run's output and `fences` its count.
pub list_done : (input : List ℕ) {out : List ℕ} {written fences state : ℕ} {after : List ℕ}
    → Answers (Listed input) out (Ok (wrote written fences state)) after → ListDone input out written fences state after
list_done input = listing.listing_done input

module _ {input out : List ℕ} {written count state : ℕ} {after : List ℕ} (listed : ListDone input out written count state after) where
  -- It lists the fewest states
  pub listing_fewest_states : {S : Type 0} (rival : Machine S Stream) (k : ℕ) → OnStates (up listed.models) rival k
      → AnswersLikeTheRule listed.models.way (up listed.models) (on listed.models) rival → listed.states ≤ k
  listing_fewest_states = machine.fewest_states _ _ _ (accepted.few_targets listed.opened) listed.described

  -- of a machine that answers like the rule,
  pub listing_answers_like_the_rule : AnswersLikeTheRule listed.models.way (up listed.models) (on listed.models)
      (machine_of (up listed.models) listed.row)
  listing_answers_like_the_rule = machine.runs_like_the_rule _ _ _ (accepted.few_targets listed.opened) listed.described

  -- numbered by first arrival,
  pub listing_numbered_by_first_arrival : (firsts : ℕ → List ℕ)
      × ((s : ℕ) → s < listed.states → FirstArrival listed.models.way (up listed.models) (on listed.models)
      (machine_of (up listed.models) listed.row) s (firsts s)) × ((s t : ℕ) → s < t → t < listed.states → firsts s ≺ firsts t)
  listing_numbered_by_first_arrival = machine.numbered_by_first_arrival _ _ _ (accepted.few_targets listed.opened) listed.described

  -- two streams leading to the same state exactly when every continuation gets the same;
  pub listing_same_state_exactly_when : (v w : List ℕ) → Letters (letters_of (up listed.models)) v → Letters (letters_of (up listed.models)) w
      → (out out' : Stream) → run listed.models.way (up listed.models) (on listed.models) (operations v) ≡ done out
      → run listed.models.way (up listed.models) (on listed.models) (operations w) ≡ done out'
      → (reached (machine_of (up listed.models) listed.row) v ≡ reached (machine_of (up listed.models) listed.row) w)
      ↔ SameState listed.models.way (up listed.models) (on listed.models) (operations v) out (operations w) out'
  listing_same_state_exactly_when = machine.same_state_exactly_when _ _ _ (accepted.few_targets listed.opened) listed.described

  -- they are the states of the image of the same two models, with the answers that its bytes have,
  pub listing_is_the_image : {image : List ℕ} → MinimalImage listed.models image
      → (listed.states ≡ at image 4)
      × ((s a : ℕ) → s < listed.states → a < letters_of (up listed.models) → listed.row s a ≡ entry_answer image s a)
  listing_is_the_image i = described_unique _ _ (mealy.same_states _) listed.described i.described

  -- and what the call of the direct run writes and counts that has the same way, texts and stream.
  pub listing_out_is_the_run : {room run-after : List ℕ} {r : Answer}
      → Delivers (outcome (way_number listed.parts.way) listed.parts.upstream listed.parts.target listed.parts.stream) room r run-after
      → length listed.output ≤ length room
      → (r ≡ Ok (wrote (length listed.output) count 0)) × (take (length listed.output) run-after ≡ listed.output)
  listing_out_is_the_run call l = (
    gave_done call listed.ran l ∙ ap (λ (n : ℕ). Ok (wrote (length listed.output) n 0)) (sym listed.counted),
    gave_bytes call listed.ran l,
  )

-- A model's text that is accepted is written back unchanged,
pub model_written_back : (text : List ℕ) {m : Model} → Told text (accepting m) → {out : List ℕ} {r : Answer} {after : List ℕ}
    → Delivers (back_given text) out r after → length text ≤ length out
    → (r ≡ Ok (wrote (length text) 0 0)) × (take (length text) after ≡ text)
model_written_back text t call l = (gave_done call (told_given t) l, gave_bytes call (told_given t) l)

-- and a built-in model's text is that of the model in 01's tables.
pub built_in_written : (number : ℕ) → number ≤ 15 → {out : List ℕ} {r : Answer} {after : List ℕ} → Delivers (built_in_given number) out r after
    → length (text_of (built_in number)) ≤ length out
    → (r ≡ Ok (wrote (length (text_of (built_in number))) 0 0)) × (take (length (text_of (built_in number))) after ≡ text_of (built_in number))
built_in_written number n {out} call l = (gave_done call (in_range_lem number (length out) n) l, gave_bytes call (in_range_lem number (length out) n) l)
