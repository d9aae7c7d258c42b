-- The limits of document 01 as the code relies on them: that the rows are there, and that the buffers hold what is put into them.
use Rattle.std.specs.Prelude.{ℕ, ◌*◌, ◌≤◌, ◌<◌, ◌≡◌, List, length}
use Rattle.operations.specs.Alphabet.{letters_with, stride}
use Rattle.shims.specs.declared.Models.{Models}
use Rattle.operations.specs.Operation.{fence_bytes}
use Rattle.machine.specs.declared.machine.Machine.{Machine}
use Rattle.listed.specs.Printed.{Listing, next_state}

-- rows of so many states, with at most so many letters as there can be
pub record RowsThere (states letters : ℕ) (rows : List ℕ) : Type 0 where
  pub few_letters : letters ≤ stride
  pub whole : states * stride ≤ length rows

-- a machine, its rows and a run
pub record Listable (machine : Machine) (rows output : List ℕ) (fences : ℕ) : Type 0 where
  pub few_states : machine.states ≤ 255
  pub rows_there : RowsThere machine.states (letters_with machine.ups) rows
  pub short_output : length output ≤ 8191
  pub few_fences : fences ≤ 4095

-- models of at most sixteen fences, as all are that were read
pub record Sixteen (m : Models) : Type 0 where
  pub upstream : m.upstream.fences ≤ 16
  pub target : m.target.fences ≤ 16

-- a run's output, and the count of its fences
pub record RunOutput (output : List ℕ) (fences : ℕ) : Type 0 where
  pub fits : length output ≤ 8191
  pub few : fence_bytes output ≤ 4095
  pub count : fences ≡ fence_bytes output

-- a listing of a machine within the limits
pub record Limited (l : Listing) : Type 0 where
  pub short_upstream : length l.upstream ≤ 16
  pub short_target : length l.target ≤ 16
  pub few_states : l.states ≤ 255
  pub few_letters : l.letters ≤ stride
  pub next_states : (i a : ℕ) → i < l.states → a < l.letters → next_state (l.row i a) < 1000
  pub short_output : length l.output ≤ 8191
  pub few_fences : l.fences ≤ 4095
