-- Document 01: "7 last"; "A refusal returns its number and place ..; every buffer keeps its former bytes." A call that writes comes to something to
-- give before its buffer is looked at, and that is what it answers where the buffer has room.
use Rattle.std.specs.Prelude.{ℕ, ◌≡◌, List, length, Result, Ok, Err}
use Rattle.answers.specs.declared.Refusal.{Refusal}
use Rattle.answers.specs.Answer.{Answer}
use Rattle.answers.specs.Buffer.{buffer_with, answer_with}

-- bytes to write, with the fences and the end state to tell; or a refusal
pub data Given : Type 0 where
  gives : List ℕ → ℕ → ℕ → Given
  refuses : Refusal → Given

-- what is given of what was read, unless that was refused; and the same where it is told by a property
abbrev pub unless_refused : {A : Type 0} → Result A Refusal → (A → Given) → Given
unless_refused (Ok a) more = more a
unless_refused (Err why) more = refuses why

abbrev pub GivenUnless : {A : Type 0} → Result A Refusal → (A → Given → Type 0) → Given → Type 0
GivenUnless (Ok a) More g = More a g
GivenUnless (Err why) More g = g ≡ refuses why

-- the answer where the buffer has room for so many bytes, and the buffer after it
abbrev pub answer_of : Given → ℕ → Answer
answer_of (gives bytes fences state) room = answer_with bytes fences state room
answer_of (refuses why) room = Err why

abbrev pub buffer_of : Given → List ℕ → List ℕ
buffer_of (gives bytes fences state) out = buffer_with bytes out
buffer_of (refuses why) out = out

-- what every call that writes promises: it delivers this into that buffer. `out` is the buffer before the call and `after` the buffer after
-- it; r is the answer.
pub record Delivers (given : Given) (out : List ℕ) (r : Answer) (after : List ℕ) : Type 0 where
  pub answer : r ≡ answer_of given (length out)
  pub buffer : after ≡ buffer_of given out

-- where what is to be given is told by a property: the call delivers something of that property
pub record Answers (Right : Given → Type 0) (out : List ℕ) (r : Answer) (after : List ℕ) : Type 0 where
  pub given : Given
  pub right : Right given
  pub delivered : Delivers given out r after
