-- A listing as its caller sees it: what an accepted call has done, and when a call is refused. Document 01: "the names and way, the states, one line
-- per state and operation (state, operation, fence byte or `-`, or `!` if refused, next state), the direct run's output (nothing after `out ` if
-- empty), its fences." "Input over 32,768 bytes prints `refused 1 at 0`, and input not of this shape prints `refused 2 at 0`. Otherwise any refusal
-- prints only `refused N at K`, with K counted within its own text or stream." "Order: ..; upstream text (1, 2, 3); target text; ..; stream length;
-- the earliest of 4, 5, 6 in the stream; 8; 9; 7 last."
use Rattle.std.specs.Prelude.{ℕ, ◌<◌, ◌≤◌, ◌≡◌, List, map, length, take, drop, None, Some}
use Rattle.answers.specs.declared.Refusal.{Refusal}
use Rattle.operations.specs.Operation.{byte_of, fence_bytes}
use Rattle.rule.specs.Stream.{Stream}
use Rattle.rule.specs.Rule.{way_number}
use Rattle.shims.specs.declared.Models.{Models}
use Rattle.runs.specs.Bytes.{puts}
use Rattle.runs.specs.Call.{outcome}
use Rattle.mealy.specs.Runs.{Answer, Same}
use Rattle.mealy.specs.Arrivals.{Described}
use Rattle.machine.specs.Shim.{shim}
use Rattle.machine.specs.Counted.{ManySituations, ManyStates}
use Rattle.listed.specs.Parts.{Parts, listed_text}
use Rattle.listing.specs.Shape.{shape}
use Rattle.demands.specs.Opened.{Opened, up, on, OpeningRefused}
use Rattle.demands.specs.DirectRuns.{Accepts, StreamRefused}

-- A call that was accepted: its input is of the shape, its lines tell a machine that describes the rule, `out` is what the direct run of the same
-- way, texts and stream gives, and `fences` is its count, which the answer has too.
pub record ListDone (input out : List ℕ) (written fences state : ℕ) (after : List ℕ) : Type 0 where
  pub within : length input ≤ 32768
  pub parts : Parts
  pub shaped : shape input ≡ Some parts
  pub models : Models
  pub opened : Opened (way_number parts.way) parts.upstream parts.target models
  pub states : ℕ
  pub row : ℕ → ℕ → Answer ℕ ℕ
  pub described : Described (shim models.way (up models) (on models)) (Same (shim models.way (up models) (on models))) states row
  pub output : List ℕ
  pub ran : outcome (way_number parts.way) parts.upstream parts.target parts.stream ≡ puts output
  pub text : take written after ≡ listed_text models output states row
  pub counted : fences ≡ fence_bytes output
  pub no_state : state ≡ 0
  pub size : length (take written after) ≡ written
  pub fits : written ≤ length out
  pub rest_kept : drop written after ≡ drop written out

-- an input within its limit that is of the shape
pub record ListShaped (input : List ℕ) (parts : Parts) : Type 0 where
  pub within : length input ≤ 32768
  pub shaped : shape input ≡ Some parts

-- whose way and texts are those of two models
pub record ListOpened (input : List ℕ) (parts : Parts) (m : Models) : Type 0 where
  pub shape_is : ListShaped input parts
  pub opened : Opened (way_number parts.way) parts.upstream parts.target m

-- and whose stream is within its limit and accepted by the direct run
pub record ListRan (input : List ℕ) (m : Models) : Type 0 where
  pub parts : Parts
  pub opens : ListOpened input parts m
  pub short : length parts.stream ≤ 4096
  pub output : Stream
  pub accepts : Accepts m parts.stream output

-- the two models' machine is not too large, and what tells it and the run's output exceeds the room
pub record ListExceeds (m : Models) (output : Stream) (room : ℕ) : Type 0 where
  pub few_situations : ManySituations m.way (up m) (on m) → ⊥
  pub few_states : ManyStates m.way (up m) (on m) → ⊥
  pub states : ℕ
  pub row : ℕ → ℕ → Answer ℕ ℕ
  pub described : Described (shim m.way (up m) (on m)) (Same (shim m.way (up m) (on m))) states row
  pub exceeds : room < length (listed_text m (map byte_of output) states row)

-- A call is refused, where the buffer has this room: by the input's length or shape, by its texts, by its stream, by the size of the machine, or last
-- by the room.
pub data ListRefused (input : List ℕ) (room : ℕ) : Refusal → Type 0 where
  over_limit : 32768 < length input → ListRefused input room Refusal.OverLimit
  shapeless : length input ≤ 32768 → shape input ≡ None → ListRefused input room (Refusal.NotOfTheForm 0)
  opening : {p : Parts} {why : Refusal} → ListShaped input p → OpeningRefused (way_number p.way) p.upstream p.target why
      → ListRefused input room why
  at_stream : {p : Parts} {m : Models} {why : Refusal} → ListOpened input p m → StreamRefused m p.stream why → ListRefused input room why
  situations : {m : Models} → ListRan input m → ManySituations m.way (up m) (on m) → ListRefused input room Refusal.TooManySituations
  states : {m : Models} → ListRan input m → (ManySituations m.way (up m) (on m) → ⊥) → ManyStates m.way (up m) (on m)
      → ListRefused input room Refusal.TooManyStates
  too_small : {m : Models} (r : ListRan input m) → ListExceeds m r.output room → ListRefused input room Refusal.BufferTooSmall
