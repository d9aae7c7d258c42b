-- A machine as the bytes of its image tell it, and a thread that is passed through it block by block. Document 01, "The machine image": "for l, L,
-- s, S a fence byte (a number, FF none, FE refused) with the next state (0 where refused), then sixteen next states for upstream fences".
use Rattle.std.specs.Prelude.{ℕ, ◌+◌, ◌-◌, ◌*◌, ◌<◌, ◌≡◌, cond, List, [], ◌++◌, map, ltb, eqb, length, take, Ok, Err}
use Rattle.ground.specs.Bytes.{at}
use Rattle.answers.specs.Answer as answers
use Rattle.answers.specs.Answer.{Verdict, wrote}
use Rattle.answers.specs.Buffer.{buffer_with, answer_with}
use Rattle.answers.specs.Given.{refuses, Delivers}
use Rattle.operations.specs.Operation.{fence_bytes}
use Rattle.operations.specs.Alphabet.{access_letters, letter_in}
use Rattle.rule.specs.Stream.{Stream, fences}
use Rattle.rule.specs.Rule.{way_number, onward}
use Rattle.shims.specs.declared.Models.{Models}
use Rattle.runs.specs.Bytes.{puts, direct}
use Rattle.mealy.specs.Runs.{Answer, refused, taken, reached, Same}
use Rattle.mealy.specs.Arrivals.{Described}
use Rattle.machine.specs.Shim.{shim}
use Rattle.machine.specs.Spoken.{machine_of}
use Rattle.places.specs.Layout.{blocks_for, position}
use Rattle.barred.specs.Barred.{states_of, upstream_fences_of, target_fences_of}
use Rattle.layout.specs.Verdict.{verdict_of}
use Rattle.image.specs.Image.{header_of}
use Rattle.image_runs.specs.declared.Stop.{Stop}
use Rattle.image_runs.specs.Run.{refusal_of, run_over}
use Rattle.demands.specs.Streams.{StreamIn, Own, Right}
use Rattle.demands.specs.Opened.{up, on}

-- what the bytes of a state's entry answer to a letter
abbrev pub access_answer : ℕ → ℕ → Answer ℕ ℕ
access_answer fence next = cond (eqb fence 254) refused (taken fence next)

abbrev pub entry_answer : List ℕ → ℕ → ℕ → Answer ℕ ℕ
entry_answer image state a =
    cond (ltb a access_letters)
    (access_answer (at image (position 1 state (2 * a))) (at image (position 1 state (2 * a + 1))))
    (taken 255 (at image (position 1 state (2 * access_letters + (a - access_letters)))))

-- These bytes are the image of the minimal machine of two models: it is accepted, its header has their way, fences and names, and the entries of its
-- states, as many as its byte 4 says, describe the rule's own machine.
pub record MinimalImage (m : Models) (image : List ℕ) : Type 0 where
  pub accepted : verdict_of image ≡ Ok tt
  pub way : at image 3 ≡ way_number m.way
  pub upstream_fences : upstream_fences_of image ≡ length (up m).fences
  pub target_fences : target_fences_of image ≡ length (on m).fences
  pub upstream_name : (header_of image).upstream ≡ m.upstream.name.bytes
  pub target_name : (header_of image).target ≡ m.target.name.bytes
  pub size : length image ≡ 512 * blocks_for 1 (states_of image)
  pub described : Described (shim m.way (up m) (on m)) (Same (shim m.way (up m) (on m))) (states_of image) (entry_answer image)

-- the state of that machine to which a stream leads
abbrev pub state_after : Models → List ℕ → Stream → ℕ
state_after m image input = reached (machine_of (up m) (entry_answer image)) (map letter_in input)

-- two accepted streams, each with its output, get the same further output and refusals on every continuation
abbrev pub SameFuture : Models → Stream → Stream → Stream → Stream → Type 0
SameFuture m v out w out' = (x : Stream) → Own (up m) x → onward m.way (up m) (on m) v out x ≡ onward m.way (up m) (on m) w out' x

-- A thread passed through an image block by block, each block a call of its own that starts in the state in which the last one ended: `given` is all
-- that went in, `put` all that came out, `inserted` all the fences told, of any length.
pub data Thread (image : List ℕ) : ℕ → List ℕ → List ℕ → ℕ → Type 0 where
  fresh : Thread image 0 [] [] 0
  block : {state next inserted written fences : ℕ} {given put out after : List ℕ} → Thread image state given put inserted
      → (bytes : List ℕ) → Delivers (run_over image state bytes) out (Ok (wrote written fences next)) after
      → Thread image next (given ++ bytes) (put ++ take written after) (inserted + fences)

-- what a thread has done: one run of the rule over all of it
pub record ThreadDone (m : Models) (image : List ℕ) (state : ℕ) (given put : List ℕ) (inserted : ℕ) : Type 0 where
  pub input : Stream
  pub input_read : StreamIn given input
  pub input_own : Own (up m) input
  pub output : Stream
  pub output_read : StreamIn put output
  pub right : Right m.way (up m) (on m) input output
  pub counted : inserted ≡ fences output
  pub state_is : state ≡ state_after m image input
  pub state_below : state < states_of image

-- The answer to the next block of a thread, and the buffer after it, are those of the one stream that all of it is: its further output, where that
-- fits, with an end state, or its refusal, counted from the block's start.
pub data AsOneStream (m : Models) (image given put bytes out : List ℕ) : answers.Answer → List ℕ → Type 0 where
  goes_on : (rest : List ℕ) (next : ℕ) → direct m.way (up m) (on m) (given ++ bytes) ≡ puts (put ++ rest) → next < states_of image
      → AsOneStream m image given put bytes out (answer_with rest (fence_bytes rest) next (length out)) (buffer_with rest out)
  stops : (why : Stop) (place : ℕ) → direct m.way (up m) (on m) (given ++ bytes) ≡ refuses (refusal_of why (length given + place))
      → AsOneStream m image given put bytes out (Err (refusal_of why place)) out

-- the same answer but for the end state, which a direct run does not tell
abbrev pub ending_in : ℕ → answers.Answer → answers.Answer
ending_in state (Ok d) = Ok (wrote d.written d.fences state)
ending_in state (Err why) = Err why
