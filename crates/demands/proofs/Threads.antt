-- Runs over the image of a machine that describes the rule: the walk is the machine's run, which is the rule's, so it is the direct run, of any
-- length and in as many blocks as there are. Assumes nothing.
use Rattle.std.proofs.Common.{Option, Some, None, Ok, Err}
use Prim.Native.Nat.{ℕ, ◌+◌, ◌<◌, ◌≤◌}
use mathlib.Core.Path.{◌≡◌, refl, sym, ap, ap₂, subst, subst₂, ◌∙◌}
use mathlib.Core.Bool.{Bool, true, false, cond}
use mathlib.Core.Logic.{◌↔◌}
use mathlib.Core.List.{List, [], ◌∷◌, ◌++◌, map, append_assoc}
use native.Mathlib.Decide.{dec_lt, dec_le}
use native.Mathlib.Omega.{arith}
use borrow.Author.Tests.{lt-ltb, le-ltb, le-leb, lt-leb}
use lib.Dec.{leb}
use lib.ListN.{length}
use Rattle.ground.proofs.Truths.{differ}
use Rattle.answers.specs.declared.Refusal.{Refusal}
use Rattle.answers.specs.Answer.{Answer, wrote, Verdict}
use Rattle.answers.specs.Buffer.{answer_with}
use Rattle.answers.specs.Given.{Given, gives, refuses, answer_of, buffer_of, Delivers}
use Rattle.operations.specs.declared.Operation.{Operation}
use Rattle.operations.specs.Operation.{byte_is, byte_of, fence_bytes}
use Rattle.operations.specs.Alphabet.{access_letters, letters_with, letter_in}
use Rattle.operations.proofs.Letters.{letter_few, operation_of_letter}
use Rattle.operations.proofs.Counting.{fences-append}
use Rattle.rule.specs.Stream.{Stream, access, fences}
use Rattle.rule.specs.Rule.{Ran, done, refused, onward, run}
use Rattle.rule.proofs.Theorems.{refused_exactly_when}
use Rattle.shims.specs.declared.Models.{Models}
use Rattle.runs.specs.Bytes.{puts, direct}
use Rattle.runs.specs.Call.{outcome}
use Rattle.runs.proofs.Counting.{fence_bytes_are_fences}
use Rattle.mealy.specs.Runs.{Machine, ends}
use Rattle.mealy.specs.Arrivals.{numbered}
use Rattle.machine.specs.Spoken.{Letters, operations, spelling, machine_of, spoken}
use Rattle.machine.specs.Counted.{SameState}
use Rattle.machine.proofs.Theorems.{runs_like_the_rule, leads_to_a_state, same_state_exactly_when}
use Rattle.barred.specs.Barred.{states_of, upstream_fences_of}
use Rattle.layout.specs.Verdict.{verdict_of}
use Rattle.layout.proofs.Faultless as layout
use Rattle.image_runs.specs.declared.Stop.{Stop}
use Rattle.image_runs.specs.Run.{Step}
use Rattle.image_runs.specs.Run.{step_as, step_at, Walked, ended, stopped, walked_on, resumed, walked, then, refusal_of, outcome_of, run_as, run_over}
use Rattle.image_runs.proofs.Theorems as walks
use Rattle.demands.specs.Streams.{StreamIn, Own}
use Rattle.demands.specs.Opened.{Opened, up, on}
use Rattle.demands.specs.DirectRuns.{StopsAt, Fault6, Accepts}
use Rattle.demands.specs.Images.{ending_in, entry_answer, MinimalImage, state_after, SameFuture, Thread, fresh, block}
use Rattle.demands.specs.Images.{ThreadDone, AsOneStream, goes_on, stops}
use Rattle.demands.proofs.Accepted.{reads_written, is_right}
use Rattle.demands.proofs.Delivered.{done_gave}
use Rattle.demands.proofs.Direct.{DirectIs, puts_out, at_4, at_5, at_6, direct_is}
use Rattle.demands.proofs.Reading.{Below, reads_length, written_bytes}
use Rattle.demands.proofs.Running.{over, runs, is_run_lem}
use Rattle.demands.proofs.Walking.{walk_of, told_machine, walks_as_told}

-- what a call over an image gives by its walk, and what it has gone through where it gives bytes
module _ (image : List ℕ) (s : ℕ) (stream : List ℕ) where
  pub over_walk : verdict_of image ≡ Ok tt → s < states_of image → length stream ≤ 4096
      → run_over image s stream ≡ outcome_of (walked image s stream)
  unfolding run_over
  over_walk a l k = rw (a, lt-ltb s (states_of image) l, le-leb (length stream) 4096 k)

  pub over_long : verdict_of image ≡ Ok tt → s < states_of image → 4096 < length stream → run_over image s stream ≡ refuses Refusal.OverLimit
  unfolding run_over
  over_long a l k = rw (a, lt-ltb s (states_of image) l, lt-leb (length stream) 4096 k)

  pub record Walks (bytes : List ℕ) (fences t : ℕ) : Type 0 where
    pub accepted : verdict_of image ≡ Ok tt
    pub start : s < states_of image
    pub within : length stream ≤ 4096
    pub ends_so : walked image s stream ≡ ended bytes fences t

  pub gives_walk : {bytes : List ℕ} {fences t : ℕ} → run_over image s stream ≡ gives bytes fences t → Walks bytes fences t
  unfolding run_over
  gives_walk {bytes} {fences} {t} e = by (verdict_of image) refl (dec_lt s (states_of image)) (dec_le (length stream) 4096) e
    where
      walk : (w : Walked) → outcome_of w ≡ gives bytes fences t → w ≡ ended bytes fences t
      walk (ended b f u) z =
          let p : b ≡ bytes = cc in
          let q : f ≡ fences = cc in
          let r : u ≡ t = cc in
          cc
      walk (stopped why k) z = differ (cc)

      by : (v : Verdict) → verdict_of image ≡ v → Dec (s < states_of image) → Dec (length stream ≤ 4096)
          → run_as image s stream v ≡ gives bytes fences t → Walks bytes fences t
      by (Err why) a l k z = differ (cc)
      by (Ok tt) a (no l) k z =
          let w : refuses Refusal.OutOfRange ≡ gives bytes fences t = rw (le-ltb s (states_of image) (omega arith)) at z in
          differ (cc)
      by (Ok tt) a (yes l) (no k) z =
          let w : refuses Refusal.OverLimit ≡ gives bytes fences t
          = rw (lt-ltb s (states_of image) l, lt-leb (length stream) 4096 (omega arith)) at z in
          differ (cc)
      by (Ok tt) a (yes l) (yes k) z =
          let w : outcome_of (walked image s stream) ≡ gives bytes fences t
          = rw (lt-ltb s (states_of image) l, le-leb (length stream) 4096 k) at z in
          record { accepted = a; start = l; within = k; ends_so = walk (walked image s stream) w }

-- the same given but for the end state, and what that makes of the answer and the buffer
abbrev given_in : ℕ → Given → Given
given_in t (gives bytes n s) = gives bytes n t
given_in t (refuses why) = refuses why

answer_in : (t room : ℕ) (g : Given) → answer_of (given_in t g) room ≡ ending_in t (answer_of g room)
unfolding answer_with
answer_in t room (refuses why) = refl
answer_in t room (gives bytes n s) = by (leb (length bytes) room)
  where
    by : (b : Bool) → cond b (Ok (wrote (length bytes) n t)) (Err Refusal.BufferTooSmall)
        ≡ ending_in t (cond b (Ok (wrote (length bytes) n s)) (Err Refusal.BufferTooSmall))
    by true = refl
    by false = refl

buffer_in : (t : ℕ) (out : List ℕ) (g : Given) → buffer_of (given_in t g) out ≡ buffer_of g out
buffer_in t out (refuses why) = refl
buffer_in t out (gives bytes n s) = refl

same_delivered : (t : ℕ) {g h : Given} {out after after' : List ℕ} {r r' : Answer} → g ≡ given_in t h → Delivers g out r after
    → Delivers h out r' after' → (r ≡ ending_in t r') × (after ≡ after')
same_delivered t {h = h} {out = out} e a b = (
  a.answer ∙ ap (λ (x : Given). answer_of x (length out)) e ∙ answer_in t (length out) h ∙ sym (ap (ending_in t) b.answer),
  a.buffer ∙ ap (λ (x : Given). buffer_of x out) e ∙ buffer_in t out h ∙ sym b.buffer,
)

-- A thread's walk is one walk, over any image.
pub thread_walks : {image : List ℕ} {s n : ℕ} {given put : List ℕ} → Thread image s given put n → walked image 0 given ≡ ended put n s
unfolding walked
thread_walks fresh = refl
thread_walks {image} (block {state = s} {inserted = n} {given = given} {put = put} th b call) =
    let gave = done_gave call in
    let walk = gives_walk image s b gave.is in
    walks.goes_on image 0 given b
    ∙ ap (λ (r : Walked). then (length given) r (λ (u : ℕ). walked image u b)) (thread_walks th)
    ∙ ap (walked_on (length given) put n) walk.ends_so

-- letters and operations
letters_own : (n : ℕ) (s : Stream) → Below n s → Letters (letters_with n) (map letter_in s)
letters_own n [] h = tt
letters_own n (Operation.Access k ∷ s) h = (omega (arith, letter_few k), letters_own n s h)
letters_own n (Operation.Fence f ∷ s) h = (omega (arith, h.0), letters_own n s h.1)

own_letters : (n : ℕ) (x : List ℕ) → Letters (letters_with n) x → Below n (operations x)
own_letters n [] h = tt
own_letters n (a ∷ x) h = look (dec_lt a access_letters) (own_letters n x h.1)
  where
    look : Dec (a < access_letters) → Below n (operations x) → Below n (operations (a ∷ x))
    look (yes l) rest = rw (lt-ltb a access_letters l) rest
    look (no l) rest = rw (le-ltb a access_letters (omega arith)) (omega (arith, h.0), rest)

pub operations_in : (s : Stream) → operations (map letter_in s) ≡ s
operations_in [] = refl
operations_in (op ∷ s) = ap₂ (λ (x : Operation) (l : Stream). x ∷ l) (operation_of_letter op) (operations_in s)

reads_append : (x y : List ℕ) (s t : Stream) → StreamIn x s → StreamIn y t → StreamIn (x ++ y) (s ++ t)
reads_append [] y [] t p q = q
reads_append [] y (op ∷ s) t p q = differ (cc)
reads_append (b ∷ x) y [] t p q = differ (cc)
reads_append (b ∷ x) y (op ∷ s) t p q =
    let first : byte_is b ≡ Some op = cc in
    let rest : StreamIn x s = cc in
    ap₂ (λ (c : Option Operation) (l : List (Option Operation)). c ∷ l) first (reads_append x y s t rest q)

below_append : (n : ℕ) (s t : Stream) → Below n s → Below n t → Below n (s ++ t)
below_append n [] t p q = q
below_append n (Operation.Access k ∷ s) t p q = below_append n s t p q
below_append n (Operation.Fence f ∷ s) t p q = (p.0, below_append n s t p.1 q)

module _ {m : Models} {image : List ℕ} (i : MinimalImage m image) where
  abbrev ran : Stream → Ran
  ran s = run m.way (up m) (on m) s

  abbrev machine : Machine ℕ Stream
  machine = machine_of (up m) (entry_answer image)

  pub image_few : length (on m).fences ≤ 16
  image_few = omega (arith, i.target_fences, layout.few_targets image (layout.accepted_faultless image i.accepted))

  same_machine : told_machine image ≡ machine
  same_machine = ap (λ (n : ℕ). spelling (numbered (letters_with n) (entry_answer image))) i.upstream_fences

  -- the walk of a stream of the upstream model's operations, by what the rule gives
  walk_is : (bytes : List ℕ) (s : Stream) → StreamIn bytes s → Own (up m) s → (r : Ran) → ran s ≡ r
      → walked image 0 bytes ≡ walk_of r (state_after m image s)
  walk_is bytes s e h r is =
      let own : Below (upstream_fences_of image) s = subst (λ (n : ℕ). Below n s) (sym i.upstream_fences) h in
      let letters = letters_own (length (up m).fences) s h in
      let like = runs_like_the_rule m.way (up m) (on m) image_few i.described (map letter_in s) letters in
      walks_as_told image bytes 0 s e own
      ∙ ap (λ (n : Machine ℕ Stream). walk_of (spoken n 0 (map letter_in s)) (ends n 0 (map letter_in s))) same_machine
      ∙ ap (λ (x : Ran). walk_of x (state_after m image s)) (like ∙ ap ran (operations_in s) ∙ is)

  state_small : (s out : Stream) → Own (up m) s → ran s ≡ done out → state_after m image s < states_of image
  state_small s out h e =
      leads_to_a_state m.way (up m) (on m) image_few i.described (map letter_in s) (letters_own (length (up m).fences) s h) out
      (ap ran (operations_in s) ∙ e)

  -- a byte that every state stops at
  stops_there : {stream : List ℕ} {place : ℕ} {Fault : ℕ → Stream → Stream → Type 0} (s : StopsAt m stream place Fault) (why : Stop)
      → ((t : ℕ) → step_at image t s.byte ≡ Err why) → walked image 0 stream ≡ stopped why place
  unfolding walked
  stops_there {place = place} s why h =
      let first = walk_is s.first s.input s.input_read s.input_own (done s.output) s.accepted in
      let rest : ℕ → Walked = λ (t : ℕ). walked image t (s.byte ∷ s.rest) in
      let t = state_after m image s.input in
      let here : rest t ≡ stopped why 0 = ap (resumed s.byte (λ (u : ℕ). walked image u s.rest)) (h t) in
      let index : length s.first + 0 ≡ place = omega (arith, s.index) in
      ap (walked image 0) s.split
      ∙ walks.goes_on image 0 s.first (s.byte ∷ s.rest)
      ∙ ap (λ (r : Walked). then (length s.first) r rest) first
      ∙ ap (walked_on (length s.first) (map byte_of s.output) (fences s.output)) here
      ∙ ap (stopped why) index

  -- an access for which no fence will do
  stuck_there : {stream : List ℕ} {place : ℕ} → StopsAt m stream place (Fault6 m) → walked image 0 stream ≡ stopped Stop.NoFenceWillDo place
  stuck_there {stream} {place} s =
      let k = s.fault.0 in
      let bytes = s.first ++ (s.byte ∷ []) in
      let input = s.input ++ access k in
      let index : length s.input ≡ place = sym (reads_length s.first s.input s.input_read) ∙ s.index in
      let no : ran input ≡ refused place =
      (refused_exactly_when m.way (up m) (on m) input place).1
      (record {
        first = s.input;
        kind = k;
        rest = [];
        out = s.output;
        split = refl;
        index = index;
        accepted = s.accepted;
        short = s.fault.2;
        none_will_do = s.fault.3;
      }) in
      let reads = reads_append s.first (s.byte ∷ []) s.input (access k) s.input_read (ap (λ (b : Option Operation). b ∷ []) s.fault.1) in
      let own = below_append (length (up m).fences) s.input (access k) s.input_own tt in
      let whole : stream ≡ bytes ++ s.rest = s.split ∙ sym (append_assoc s.first (s.byte ∷ []) s.rest) in
      ap (walked image 0) whole
      ∙ walks.goes_on image 0 bytes s.rest
      ∙ ap (λ (r : Walked). then (length bytes) r (λ (t : ℕ). walked image t s.rest)) (walk_is bytes input reads own (refused place) no)

  no_operation_step : (b t : ℕ) → byte_is b ≡ None → step_at image t b ≡ Err Stop.NoOperation
  unfolding step_at
  no_operation_step b t e = ap (step_as image t) e

  no_fence_step : (b f t : ℕ) → byte_is b ≡ Some (Operation.Fence f) → length (up m).fences ≤ f → step_at image t b ≡ Err Stop.NoSuchFence
  unfolding step_at
  no_fence_step b f t e l = rw (e, le-ltb f (upstream_fences_of image) (omega (arith, i.upstream_fences)))

  -- the walk of any stream, by what the direct run gives
  pub data WalkedAs (stream : List ℕ) : Given → Type 0 where
    ends_at : {output : Stream} (a : Accepts m stream output)
        → walked image 0 stream ≡ ended (map byte_of output) (fences output) (state_after m image a.input)
        → WalkedAs stream (puts (map byte_of output))
    stops_at : (why : Stop) (k : ℕ) → walked image 0 stream ≡ stopped why k → WalkedAs stream (refuses (refusal_of why k))

  pub walked_as : (stream : List ℕ) → WalkedAs stream (direct m.way (up m) (on m) stream)
  walked_as stream = by (direct_is m stream)
    where
      by : {g : Given} → DirectIs m stream g → WalkedAs stream g
      by (puts_out {output = output} a) = ends_at a (walk_is stream a.input a.input_read a.input_own (done output) a.accepted)
      by (at_4 place s) = stops_at Stop.NoOperation place (stops_there s Stop.NoOperation (λ t. no_operation_step s.byte t s.fault))
      by (at_5 place s) =
          stops_at Stop.NoSuchFence place
          (stops_there s Stop.NoSuchFence (λ t. no_fence_step s.byte s.fault.0 t s.fault.1 s.fault.2))
      by (at_6 place s) = stops_at Stop.NoFenceWillDo place (stuck_there s)

  -- A thread has done one run of the rule.
  pub thread_done : {s n : ℕ} {given put : List ℕ} → Thread image s given put n → ThreadDone m image s given put n
  thread_done {s} {n} {given} {put} th = by (walked_as given) (thread_walks th)
    where
      by : {g : Given} → WalkedAs given g → walked image 0 given ≡ ended put n s → ThreadDone m image s given put n
      by (stops_at why k e) w =
          let z : stopped why k ≡ ended put n s = sym e ∙ w in
          differ (cc)
      by (ends_at {output = output} a e) w =
          let z : ended put n s ≡ ended (map byte_of output) (fences output) (state_after m image a.input) = sym w ∙ e in
          let bytes : map byte_of output ≡ put = cc in
          let count : n ≡ fences output = cc in
          let state : s ≡ state_after m image a.input = cc in
          let right = is_right m.way (up m) (on m) a.input output a.accepted in
          record {
            input = a.input;
            input_read = a.input_read;
            input_own = a.input_own;
            output = output;
            output_read = subst (λ (l : List ℕ). StreamIn l output) bytes
                (reads_written (length (on m).fences) image_few output right.placing.its);
            right = right;
            counted = count;
            state_is = state;
            state_below = omega (arith, state, state_small a.input output a.input_own a.accepted);
          }

  -- what a thread has put out has as many fence bytes as it was told
  put_counted : {s n : ℕ} {given put : List ℕ} → ThreadDone m image s given put n → fence_bytes put ≡ n
  put_counted {put = put} d =
      let bytes : map byte_of d.output ≡ put = written_bytes put d.output d.output_read in
      ap fence_bytes (sym bytes) ∙ fence_bytes_are_fences (length (on m).fences) image_few d.output d.right.placing.its ∙ sym d.counted

  -- The next block gets what the one stream would get.
  pub as_one_stream : {s n : ℕ} {given put : List ℕ} → Thread image s given put n → (bytes : List ℕ) → length bytes ≤ 4096
      → {out after : List ℕ} {r : Answer} → Delivers (run_over image s bytes) out r after → AsOneStream m image given put bytes out r after
  as_one_stream {s} {n} {given} {put} th bytes few {out} {after} {r} call =
      by (walked image s bytes) refl refl (walked_as (given ++ bytes))
    where
      before : ThreadDone m image s given put n
      before = thread_done th

      both : (w : Walked) → walked image s bytes ≡ w → walked image 0 (given ++ bytes) ≡ walked_on (length given) put n w
      both w e =
          walks.goes_on image 0 given bytes
          ∙ ap (λ (x : Walked). then (length given) x (λ (t : ℕ). walked image t bytes)) (thread_walks th)
          ∙ ap (walked_on (length given) put n) e

      answered : (w : Walked) → walked image s bytes ≡ w → answer_of (outcome_of w) (length out) ≡ r
      answered w e =
          sym (call.answer ∙ ap (λ (g : Given). answer_of g (length out))
          (over_walk image s bytes i.accepted before.state_below few ∙ ap outcome_of e))

      left : (w : Walked) → walked image s bytes ≡ w → buffer_of (outcome_of w) out ≡ after
      left w e =
          sym (call.buffer ∙ ap (λ (g : Given). buffer_of g out)
          (over_walk image s bytes i.accepted before.state_below few ∙ ap outcome_of e))

      count : fence_bytes put ≡ n
      count = put_counted before

      by : (w : Walked) → walked image s bytes ≡ w → {g : Given} → g ≡ direct m.way (up m) (on m) (given ++ bytes) → WalkedAs (given ++ bytes) g
          → AsOneStream m image given put bytes out r after
      by (ended rest f t) e is (stops_at why k z) =
          let w : ended (put ++ rest) (n + f) t ≡ stopped why k = sym (both (ended rest f t) e) ∙ z in
          differ (cc)
      by (stopped why k) e is (ends_at {output = output} a z) =
          let w : stopped why (length given + k) ≡ ended (map byte_of output) (fences output) (state_after m image a.input)
          = sym (both (stopped why k) e) ∙ z in
          differ (cc)
      by (stopped why k) e is (stops_at stop place z) =
          let w : stopped stop place ≡ stopped why (length given + k) = sym z ∙ both (stopped why k) e in
          let same : refuses (refusal_of stop place) ≡ refuses (refusal_of why (length given + k)) = cc in
          subst₂ (AsOneStream m image given put bytes out) (answered (stopped why k) e) (left (stopped why k) e) (stops why k (sym is ∙ same))
      by (ended rest f t) e is (ends_at {output = output} a z) =
          let w : ended (map byte_of output) (fences output) (state_after m image a.input) ≡ ended (put ++ rest) (n + f) t
          = sym z ∙ both (ended rest f t) e in
          let whole : map byte_of output ≡ put ++ rest = cc in
          let total : fences output ≡ n + f = cc in
          let state : state_after m image a.input ≡ t = cc in
          let placed = (is_right m.way (up m) (on m) a.input output a.accepted).placing.its in
          let all : fence_bytes (map byte_of output) ≡ fences output = fence_bytes_are_fences (length (on m).fences) image_few output placed in
          let mine : fence_bytes rest ≡ f = omega (arith, all, ap fence_bytes whole, fences-append put rest, total, count) in
          let small : t < states_of image = omega (arith, state, state_small a.input output a.input_own a.accepted) in
          subst₂ (AsOneStream m image given put bytes out)
          (ap (λ (k : ℕ). answer_of (gives rest k t) (length out)) mine ∙ answered (ended rest f t) e) (left (ended rest f t) e)
          (goes_on rest t (sym is ∙ ap puts whole) small)

  -- Two streams lead to the same state exactly when they have the same future.
  pub same_state : {s t : ℕ} (v w out out' : Stream) → s ≡ state_after m image v → t ≡ state_after m image w → Own (up m) v → Own (up m) w
      → ran v ≡ done out → ran w ≡ done out' → (s ≡ t) ↔ SameFuture m v out w out'
  same_state {s} {t} v w out out' p q g h e f =
      let n = length (up m).fences in
      let exactly = subst₂ (λ (a b : Stream). (state_after m image v ≡ state_after m image w) ↔ SameState m.way (up m) (on m) a out b out')
      (operations_in v)
      (operations_in w)
      (same_state_exactly_when m.way (up m) (on m) image_few i.described (map letter_in v) (map letter_in w) (letters_own n v g)
      (letters_own n w h)
      out out' (ap ran (operations_in v) ∙ e) (ap ran (operations_in w) ∙ f)) in (
        λ same x own.
            subst (λ (y : Stream). onward m.way (up m) (on m) v out y ≡ onward m.way (up m) (on m) w out' y) (operations_in x)
            (exactly.0 (sym p ∙ same ∙ q) (map letter_in x) (letters_own n x own)),
        λ future. p ∙ exactly.1 (λ y l. future (operations y) (own_letters n y l)) ∙ sym q,
      )

  some_state : 0 < states_of image
  some_state = (thread_done fresh).state_below

  -- A run over the image from state 0 is the direct run, but for the end state.
  pub run_over_is_direct : {number : ℕ} {upstream target : List ℕ} → Opened number upstream target m
      → (stream : List ℕ) {out : List ℕ} {r r' : Answer}
      {after after' : List ℕ} → Delivers (run_over image 0 stream) out r after → Delivers (outcome number upstream target stream) out r' after'
      → (state : ℕ) × (state < states_of image) × (r ≡ ending_in state r') × (after ≡ after')
  run_over_is_direct {number} {upstream} {target} o stream {out} {r} {r'} {after} {after'} a b = by (dec_le (length stream) 4096)
    where
      ended_in : (t : ℕ) → t < states_of image → run_over image 0 stream ≡ given_in t (outcome number upstream target stream)
          → (state : ℕ) × (state < states_of image) × (r ≡ ending_in state r') × (after ≡ after')
      ended_in t l e =
          let same = same_delivered t e a b in
          (t, l, same.0, same.1)

      walked_so : length stream ≤ 4096 → {g : Given} → outcome number upstream target stream ≡ g → WalkedAs stream g
          → (state : ℕ) × (state < states_of image) × (r ≡ ending_in state r') × (after ≡ after')
      walked_so l is (stops_at why k e) =
          ended_in 0 some_state (over_walk image 0 stream i.accepted some_state l ∙ ap outcome_of e ∙ sym (ap (given_in 0) is))
      walked_so l is (ends_at {output = output} c e) =
          let t = state_after m image c.input in
          let placed = (is_right m.way (up m) (on m) c.input output c.accepted).placing.its in
          let count : fence_bytes (map byte_of output) ≡ fences output = fence_bytes_are_fences (length (on m).fences) image_few output placed in
          ended_in t (state_small c.input output c.input_own c.accepted)
          (over_walk image 0 stream i.accepted some_state l ∙ ap outcome_of e ∙ ap (λ (n : ℕ). gives (map byte_of output) n t) (sym count)
          ∙ sym (ap (given_in t) is))

      by : Dec (length stream ≤ 4096) → (state : ℕ) × (state < states_of image) × (r ≡ ending_in state r') × (after ≡ after')
      by (yes l) = walked_so l (is_run_lem number upstream target stream (runs o l (direct_is m stream))) (walked_as stream)
      by (no l) =
          let long : 4096 < length stream = omega arith in
          ended_in 0 some_state
          (over_long image 0 stream i.accepted some_state long ∙ sym (ap (given_in 0) (is_run_lem number upstream target stream (over o long))))
