-- When the calls that take an image are refused. Document 01: 1, "a text, stream or image is over its limit"; 10, "an image is empty, has a broken
-- last block, or a wrong number or check", at the "lowest such block"; 11, "an image holds a value the layout bars", at the "lowest such byte";
-- "Order: ..; image (1, 10, 11); start state; stream length; the earliest of 4, 5, 6 in the stream; ..; 7 last."
use Rattle.std.specs.Prelude.{ℕ, ◌*◌, ◌<◌, ◌≤◌, ◌≡◌, true, false, List, ◌∷◌, ◌++◌, length, Some, None, Ok}
use Rattle.ground.specs.Bytes.{at}
use Rattle.answers.specs.declared.Refusal.{Refusal}
use Rattle.answers.specs.Answer.{Verdict}
use Rattle.operations.specs.declared.Kind.{Kind}
use Rattle.operations.specs.declared.Operation.{Operation}
use Rattle.operations.specs.Operation.{byte_is}
use Rattle.operations.specs.Alphabet.{letter_of}
use Rattle.places.specs.Layout.{position}
use Rattle.blocks.specs.Wrong.{wrong}
use Rattle.barred.specs.Barred.{barred, states_of, upstream_fences_of}
use Rattle.layout.specs.Verdict.{block_count, verdict_of}
use Rattle.image_runs.specs.Run.{ended, walked}

-- what is wrong with an image
pub data ImageRefused (image : List ℕ) : Refusal → Type 0 where
  over_limit : 7168 < length image → ImageRefused image Refusal.OverLimit
  broken : (b : ℕ) → length image ≤ 7168 → b < block_count image → wrong image b ≡ true → ((c : ℕ) → c < b → wrong image c ≡ false)
      → ImageRefused image (Refusal.BrokenBlock b)
  barred_value : (k : ℕ) → length image ≤ 7168 → ((b : ℕ) → b < block_count image → wrong image b ≡ false) → k < length image
      → barred image k ≡ true → ((j : ℕ) → j < k → barred image j ≡ false) → ImageRefused image (Refusal.BarredValue k)

-- a call that reads an image and writes it back, where the buffer has this room
pub data ReadRefused (image : List ℕ) (room : ℕ) : Refusal → Type 0 where
  image_refused : {why : Refusal} → ImageRefused image why → ReadRefused image room why
  too_small : verdict_of image ≡ Ok tt → room < length image → ReadRefused image room Refusal.BufferTooSmall

-- A byte of the stream stops the run: what stands before it leads to a state, and there is this fault with it in that state.
pub record WalkStopsAt (image : List ℕ) (start : ℕ) (stream : List ℕ) (place : ℕ) (Fault : ℕ → ℕ → Type 0) : Type 0 where
  pub first : List ℕ
  pub byte : ℕ
  pub rest : List ℕ
  pub split : stream ≡ first ++ (byte ∷ rest)
  pub index : length first ≡ place
  pub put : List ℕ
  pub inserted : ℕ
  pub state : ℕ
  pub leads_to_state : walked image start first ≡ ended put inserted state
  pub fault : Fault byte state

-- the faults: 4; 5, by the number of upstream fences that the image has; and 6, "FE refused" as the fence byte of the access in that state's entry
abbrev pub WalkFault4 : List ℕ → ℕ → ℕ → Type 0
WalkFault4 image b state = byte_is b ≡ None

abbrev pub WalkFault5 : List ℕ → ℕ → ℕ → Type 0
WalkFault5 image b state = (f : ℕ) × (byte_is b ≡ Some (Operation.Fence f)) × (upstream_fences_of image ≤ f)

abbrev pub WalkFault6 : List ℕ → ℕ → ℕ → Type 0
WalkFault6 image b state = (k : Kind) × (byte_is b ≡ Some (Operation.Access k)) × (at image (position 1 state (2 * letter_of k)) ≡ 254)

-- a run over an image: of a generated image the stream is refused as by the direct run
pub data ImageRunRefused (image : List ℕ) (start : ℕ) (stream : List ℕ) (room : ℕ) : Refusal → Type 0 where
  image_refused : {why : Refusal} → ImageRefused image why → ImageRunRefused image start stream room why
  no_such_state : verdict_of image ≡ Ok tt → states_of image ≤ start → ImageRunRefused image start stream room Refusal.OutOfRange
  over_limit : verdict_of image ≡ Ok tt → start < states_of image → 4096 < length stream
      → ImageRunRefused image start stream room Refusal.OverLimit
  no_operation : (place : ℕ) → verdict_of image ≡ Ok tt → start < states_of image → length stream ≤ 4096
      → WalkStopsAt image start stream place (WalkFault4 image) → ImageRunRefused image start stream room (Refusal.NoOperation place)
  no_such_fence : (place : ℕ) → verdict_of image ≡ Ok tt → start < states_of image → length stream ≤ 4096
      → WalkStopsAt image start stream place (WalkFault5 image) → ImageRunRefused image start stream room (Refusal.NoSuchFence place)
  no_fence_will_do : (place : ℕ) → verdict_of image ≡ Ok tt → start < states_of image → length stream ≤ 4096
      → WalkStopsAt image start stream place (WalkFault6 image) → ImageRunRefused image start stream room (Refusal.NoFenceWillDo place)
  too_small : verdict_of image ≡ Ok tt → start < states_of image → length stream ≤ 4096 → (bytes : List ℕ) (fences state : ℕ)
      → walked image start stream ≡ ended bytes fences state → room < length bytes
      → ImageRunRefused image start stream room Refusal.BufferTooSmall
