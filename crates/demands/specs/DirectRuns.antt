-- The direct run as its caller sees it: what an accepted call has done, by its numbers and the buffer after it, and when a call is refused.
-- Document 01: "4: a byte is no operation", "5: the upstream model has no such fence", "6: no fence will do for the way", each at its index;
-- "Order: way ..; upstream text (1, 2, 3); target text; ..; stream length; the earliest of 4, 5, 6 in the stream; ..; 7 last."
use Rattle.std.specs.Prelude.{ℕ, ◌<◌, ◌≤◌, ◌≡◌, false, List, ◌∷◌, ◌++◌, length, take, drop, Some, None}
use Rattle.answers.specs.declared.Refusal.{Refusal}
use Rattle.operations.specs.declared.Kind.{Kind}
use Rattle.operations.specs.declared.Operation.{Operation}
use Rattle.operations.specs.Operation.{byte_is}
use Rattle.rule.specs.Stream.{Stream, fence}
use Rattle.rule.specs.Stream as streams
use Rattle.rule.specs.Pairs.{settled}
use Rattle.rule.specs.Rule.{done, run, NoneWillDo}
use Rattle.shims.specs.declared.Models.{Models}
use Rattle.demands.specs.Streams.{StreamIn, Own, Right}
use Rattle.demands.specs.Opened.{Opened, up, on, OpeningRefused}

-- A call that was accepted: `out` is the buffer before it and `after` the buffer after it.
pub record RunDone (number : ℕ) (upstream target stream out : List ℕ) (written fences state : ℕ) (after : List ℕ) : Type 0 where
  pub models : Models
  pub opened : Opened number upstream target models
  pub within : length stream ≤ 4096
  -- the stream is operations, whose fences are the upstream model's; so is what was written, whose fences are the target model's
  pub input : Stream
  pub input_read : StreamIn stream input
  pub input_own : Own (up models) input
  pub output : Stream
  pub output_read : StreamIn (take written after) output
  pub right : Right models.way (up models) (on models) input output
  -- the numbers, and the rest of the buffer
  pub size : written ≡ length output
  pub counted : fences ≡ streams.fences output
  pub no_state : state ≡ 0
  pub fits : written ≤ length out
  pub rest_kept : drop written after ≡ drop written out

-- A byte of the stream stops the run: what stands before it is accepted, and there is this fault with it, after this input and this output.
pub record StopsAt (m : Models) (stream : List ℕ) (place : ℕ) (Fault : ℕ → Stream → Stream → Type 0) : Type 0 where
  pub first : List ℕ
  pub byte : ℕ
  pub rest : List ℕ
  pub split : stream ≡ first ++ (byte ∷ rest)
  pub index : length first ≡ place
  pub input : Stream
  pub input_read : StreamIn first input
  pub input_own : Own (up m) input
  pub output : Stream
  pub accepted : run m.way (up m) (on m) input ≡ done output
  pub fault : Fault byte input output

-- the faults: 4, 5 and 6
abbrev pub Fault4 : Models → ℕ → Stream → Stream → Type 0
Fault4 m b input output = byte_is b ≡ None

abbrev pub Fault5 : Models → ℕ → Stream → Stream → Type 0
Fault5 m b input output = (f : ℕ) × (byte_is b ≡ Some (Operation.Fence f)) × (length (up m).fences ≤ f)

-- an access at which a pair would be short, and after no fence that the way may take would none be
abbrev pub Fault6 : Models → ℕ → Stream → Stream → Type 0
Fault6 m b input output =
    (k : Kind) × (byte_is b ≡ Some (Operation.Access k)) × (settled (up m) (on m) input output k ≡ false)
    × NoneWillDo m.way (λ (g : ℕ). settled (up m) (on m) input (output ++ fence g) k) (length (on m).fences)

-- the rule accepts the whole stream
pub record Accepts (m : Models) (stream : List ℕ) (output : Stream) : Type 0 where
  pub input : Stream
  pub input_read : StreamIn stream input
  pub input_own : Own (up m) input
  pub accepted : run m.way (up m) (on m) input ≡ done output

-- what the accepted run of a whole stream writes exceeds the room
pub record Exceeds (m : Models) (stream : List ℕ) (room : ℕ) : Type 0 where
  pub output : Stream
  pub accepts : Accepts m stream output
  pub exceeds : room < length output

-- A stream is refused: by its length, or by the earliest byte at fault.
pub data StreamRefused (m : Models) (stream : List ℕ) : Refusal → Type 0 where
  over_limit : 4096 < length stream → StreamRefused m stream Refusal.OverLimit
  no_operation : (place : ℕ) → length stream ≤ 4096 → StopsAt m stream place (Fault4 m) → StreamRefused m stream (Refusal.NoOperation place)
  no_such_fence : (place : ℕ) → length stream ≤ 4096 → StopsAt m stream place (Fault5 m) → StreamRefused m stream (Refusal.NoSuchFence place)
  no_fence_will_do : (place : ℕ) → length stream ≤ 4096 → StopsAt m stream place (Fault6 m)
      → StreamRefused m stream (Refusal.NoFenceWillDo place)

-- A call is refused, where the buffer has this room: by its opening, by the stream, or last by the room.
pub data RunRefused (number : ℕ) (upstream target stream : List ℕ) (room : ℕ) : Refusal → Type 0 where
  opening : {why : Refusal} → OpeningRefused number upstream target why → RunRefused number upstream target stream room why
  at_stream : {m : Models} {why : Refusal} → Opened number upstream target m → StreamRefused m stream why
      → RunRefused number upstream target stream room why
  too_small : {m : Models} → Opened number upstream target m → length stream ≤ 4096
      → Exceeds m stream room → RunRefused number upstream target stream room Refusal.BufferTooSmall
