-- One turn of the run: what a move lays into the buffer; and how a run ends.
use Rattle.std.specs.Prelude.{ℕ, ◌+◌, ◌≤◌, ◌≡◌, List, length, set, take, Result, Ok, Err}
use Rattle.answers.specs.declared.Refusal.{Refusal}
use Rattle.answers.specs.Given.{Given, refuses}
use Rattle.operations.specs.Operation.{fence_byte}
use Rattle.runs.specs.declared.Move.{Move}
use Rattle.runs.specs.declared.Progress.{Progress}
use Rattle.runs.specs.Bytes.{puts}

-- how far it comes, and what it lays into the buffer
abbrev pub turned : Move → ℕ → Progress
turned (Move.Silent next) n = record { situation = next; written = n }
turned (Move.Plain next) n = record { situation = next; written = n + 1 }
turned (Move.Fenced g next) n = record { situation = next; written = n + 2 }

abbrev pub laid : Move → ℕ → ℕ → List ℕ → List ℕ
laid (Move.Silent next) b n buffer = buffer
laid (Move.Plain next) b n buffer = set buffer n b
laid (Move.Fenced g next) b n buffer = set (set buffer n (fence_byte g)) (n + 1) b

-- what a run has given that ends so, with its bytes at the front of the buffer; how many there are fits the buffer
abbrev pub given : Result ℕ Refusal → List ℕ → Given
given (Ok n) buffer = puts (take n buffer)
given (Err why) buffer = refuses why

abbrev pub Fits : Result ℕ Refusal → List ℕ → Type 0
Fits (Ok n) buffer = n ≤ length buffer
Fits (Err why) buffer = Unit {0}

-- a run that gives this ends so
pub record Ends (x : Given) (e : Result ℕ Refusal) (buffer : List ℕ) : Type 0 where
  pub fits : Fits e buffer
  pub is : x ≡ given e buffer
