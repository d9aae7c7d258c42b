-- Document 01: "streams run over an image". "An operation is one byte"; "In the input a fence number means an upstream fence, in the output a
-- target fence. Upstream fences are not passed on." For each access the image has "a fence byte (a number, FF none, FE refused) with the next
-- state", for each upstream fence a next state.
-- Refusals, in this order: the image's (1, 10, 11); 12, "a way, start state or built-in number is out of range"; 1, a stream over 4,096
-- operations; the earliest of 4, "a byte is no operation", 5, "the upstream model has no such fence", and 6, "no fence will do for the way",
-- each at its index; 7 last.
-- This says all that a run over an image does, for every image that is accepted.
use Rattle.std.specs.Prelude.{ℕ, ◌+◌, ◌*◌, List, [], ◌∷◌, ◌++◌, cond, leb, ltb, eqb, length, Option, Some, None, Result, Ok, Err}
use Rattle.ground.specs.Bytes.{at}
use Rattle.answers.specs.Given.{Given, gives, refuses, unless_refused}
use Rattle.answers.specs.declared.Refusal.{Refusal}
use Rattle.answers.specs.Answer.{Verdict}
use Rattle.operations.specs.declared.Operation.{Operation}
use Rattle.operations.specs.Operation.{byte_is, fence_byte}
use Rattle.operations.specs.Alphabet.{letter_of}
use Rattle.image_runs.specs.declared.Stop.{Stop}
use Rattle.image_runs.specs.declared.Move.{Move}
use Rattle.places.specs.Layout.{accesses, position}
use Rattle.barred.specs.Barred.{states_of, upstream_fences_of}
use Rattle.layout.specs.Verdict.{verdict_of}

-- what a state answers: a move, or why the run stops
abbrev pub Step : Type 0
Step = Result Move Stop

-- an access whose entry has this fence byte and this next state
abbrev pub access_step : ℕ → ℕ → Step
access_step fence next =
    cond (eqb fence 254) (Err Stop.NoFenceWillDo)
    (Ok (cond (eqb fence 255) (Move.Plain next) (Move.Fenced (fence_byte fence) next)))

-- what a state answers to a byte of the stream
abbrev pub step_as : List ℕ → ℕ → Option Operation → Step
step_as image s None = Err Stop.NoOperation
step_as image s (Some (Operation.Access k)) =
    access_step (at image (position 1 s (2 * letter_of k))) (at image (position 1 s (2 * letter_of k + 1)))
step_as image s (Some (Operation.Fence f)) =
    cond (ltb f (upstream_fences_of image)) (Ok (Move.Passed (at image (position 1 s (2 * accesses 1 + f))))) (Err Stop.NoSuchFence)

unfoldable pub step_at : List ℕ → ℕ → ℕ → Step
step_at image s b = step_as image s (byte_is b)

-- what a move puts out for the byte b, how many fences it inserts, and where it leads
abbrev pub puts : ℕ → Move → List ℕ
puts b (Move.Passed t) = []
puts b (Move.Plain t) = b ∷ []
puts b (Move.Fenced x t) = x ∷ b ∷ []

abbrev pub inserts : Move → ℕ
inserts (Move.Passed t) = 0
inserts (Move.Plain t) = 0
inserts (Move.Fenced x t) = 1

abbrev pub leads : Move → ℕ
leads (Move.Passed t) = t
leads (Move.Plain t) = t
leads (Move.Fenced x t) = t

-- what a run gives: its output, the fences inserted and the end state; or why it stops, and the index of that byte
pub data Walked : Type 0 where
  ended : List ℕ → ℕ → ℕ → Walked
  stopped : Stop → ℕ → Walked

-- k bytes further on, behind what they put out and the fences they inserted
abbrev pub walked_on : ℕ → List ℕ → ℕ → Walked → Walked
walked_on k put n (ended out m s) = ended (put ++ out) (n + m) s
walked_on k put n (stopped why i) = stopped why (k + i)

abbrev pub resumed : ℕ → (ℕ → Walked) → Step → Walked
resumed b rest (Err why) = stopped why 0
resumed b rest (Ok m) = walked_on 1 (puts b m) (inserts m) (rest (leads m))

-- the run of a stream from a state
unfoldable pub walked : List ℕ → ℕ → List ℕ → Walked
walked image s [] = ended [] 0 s
walked image s (b ∷ rest) = resumed b (λ (t : ℕ). walked image t rest) (step_at image s b)

-- what a run gives, and then the run of a rest from where it ended; k is how many bytes the first had
abbrev pub then : ℕ → Walked → (ℕ → Walked) → Walked
then k (ended out n t) rest = walked_on k out n (rest t)
then k (stopped why i) rest = stopped why i

-- what the call comes to before its buffer is looked at

abbrev pub refusal_of : Stop → ℕ → Refusal
refusal_of Stop.NoOperation i = Refusal.NoOperation i
refusal_of Stop.NoSuchFence i = Refusal.NoSuchFence i
refusal_of Stop.NoFenceWillDo i = Refusal.NoFenceWillDo i

abbrev pub outcome_of : Walked → Given
outcome_of (ended out n s) = gives out n s
outcome_of (stopped why i) = refuses (refusal_of why i)

abbrev pub stream_limit : ℕ
stream_limit = 4096

abbrev pub run_as : List ℕ → ℕ → List ℕ → Verdict → Given
run_as image start stream verdict =
    unless_refused verdict λ _.
    (cond (ltb start (states_of image))
    (cond (leb (length stream) stream_limit) (outcome_of (walked image start stream)) (refuses Refusal.OverLimit))
    (refuses Refusal.OutOfRange))

-- the run over an image
unfoldable pub run_over : List ℕ → ℕ → List ℕ → Given
run_over image start stream = run_as image start stream (verdict_of image)
