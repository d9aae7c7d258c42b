-- A run while it goes on: what each turn of its loop keeps, and what it leaves.
use Rattle.std.specs.Prelude.{ℕ, ◌+◌, ◌*◌, ◌<◌, ◌≤◌, ◌≡◌, List, ◌++◌, length, take, drop, Result, Ok, Err}
use Rattle.answers.specs.declared.Refusal.{Refusal}
use Rattle.answers.specs.Given.{refuses}
use Rattle.image_runs.specs.declared.Move.{Move}
use Rattle.image_runs.specs.Run.{Step, puts, inserts, leads, Walked, ended, walked_on, walked, outcome_of}
use Rattle.image_runs.specs.declared.Progress.{Progress}

-- where a step leads is a byte
abbrev pub Small : Step → Type 0
Small (Ok m) = leads m < 256
Small (Err why) = Unit {0}

-- what a move for the byte b makes of a run's progress and of the bytes put out
pub record Moved (p : Progress) (b : ℕ) (m : Move) (room : List ℕ) (r : Progress) (room' : List ℕ) : Type 0 where
  pub size : length room' ≡ length room
  pub out : take r.written room' ≡ take p.written room ++ puts b m
  pub written : r.written ≡ p.written + length (puts b m)
  pub fences : r.fences ≡ p.fences + inserts m
  pub state : r.state ≡ leads m

-- after k bytes of a stream: the whole run is what was put out so far, and the run of the rest; and how much that can be
pub record Going (image : List ℕ) (start : ℕ) (stream : List ℕ) (p : Progress) (room : List ℕ) (k : ℕ) : Type 0 where
  pub few : p.written ≤ 2 * k
  pub fewer : p.fences ≤ k
  pub small : p.state < 256
  pub so_far : walked image start stream ≡ walked_on k (take p.written room) p.fences (walked image p.state (drop k stream))

-- the ending of a run whose output stands at the front of a list
abbrev pub Ends : Walked → Result Progress Refusal → List ℕ → Type 0
Ends r (Ok p) room = (p.written ≤ length room) × (r ≡ ended (take p.written room) p.fences p.state)
Ends r (Err why) room = outcome_of r ≡ refuses why
