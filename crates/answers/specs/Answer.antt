-- Document 01, "Numbers and refusals": the table of refusals with their numbers and places, and "A refusal returns its number and place
-- (0 where none is stated), every other number zero". "Success returns number 0 with place 0, bytes written, fences inserted and, for
-- image runs, the end state".
use Rattle.std.specs.Prelude.{ℕ, List, [], ◌∷◌, Result, Ok, Err}
use Rattle.answers.specs.declared.Refusal.{Refusal}
use Rattle.answers.specs.declared.Done.{Done}

-- what a call that writes answers
abbrev pub Answer : Type 0
Answer = Result Done Refusal

abbrev pub wrote : ℕ → ℕ → ℕ → Done
wrote written fences state = record { written = written; fences = fences; state = state }

-- what is said of a text or an image that is read
abbrev pub Verdict : Type 0
Verdict = Result Unit Refusal

abbrev pub number_of : Refusal → ℕ
number_of Refusal.OverLimit = 1
number_of (Refusal.NotOfTheForm k) = 2
number_of (Refusal.FenceNameRepeats k) = 3
number_of (Refusal.NoOperation k) = 4
number_of (Refusal.NoSuchFence k) = 5
number_of (Refusal.NoFenceWillDo k) = 6
number_of Refusal.BufferTooSmall = 7
number_of Refusal.TooManySituations = 8
number_of Refusal.TooManyStates = 9
number_of (Refusal.BrokenBlock k) = 10
number_of (Refusal.BarredValue k) = 11
number_of Refusal.OutOfRange = 12

abbrev pub place_of : Refusal → ℕ
place_of Refusal.OverLimit = 0
place_of (Refusal.NotOfTheForm k) = k
place_of (Refusal.FenceNameRepeats k) = k
place_of (Refusal.NoOperation k) = k
place_of (Refusal.NoSuchFence k) = k
place_of (Refusal.NoFenceWillDo k) = k
place_of Refusal.BufferTooSmall = 0
place_of Refusal.TooManySituations = 0
place_of Refusal.TooManyStates = 0
place_of (Refusal.BrokenBlock k) = k
place_of (Refusal.BarredValue k) = k
place_of Refusal.OutOfRange = 0

-- number, place, written, fences, state
abbrev pub numbers_of : Answer → List ℕ
numbers_of (Ok d) = 0 ∷ 0 ∷ d.written ∷ d.fences ∷ d.state ∷ []
numbers_of (Err why) = number_of why ∷ place_of why ∷ 0 ∷ 0 ∷ 0 ∷ []
