-- What generating gives. 01, "The machine", and of its table of refusals 8, "the reachable situations exceed 4,096", and 9, "the states exceed 255",
-- in this order, with 7, "what must be written exceeds the buffer", last.
use Rattle.std.specs.Prelude.{ℕ, ◌+◌, ◌*◌, ◌/◌, ◌%◌, ◌≤◌, ◌<◌, ◌≡◌, ◌⊎◌, List, length, take, Ok, Err}
use Rattle.machine.specs.Outcome.{Outcome}
use Rattle.ground.specs.Bytes.{at}
use Rattle.answers.specs.declared.Refusal.{Refusal}
use Rattle.operations.specs.Alphabet.{letters_with, stride}
use Rattle.rule.specs.declared.situation.Situation.{Situation}
use Rattle.rule.specs.declared.way.Way.{Way}
use Rattle.rule.specs.declared.way.Shim.{Shim}
use Rattle.rule.specs.Rule.{way_number}
use Rattle.mealy.specs.Runs.{Answer, Machine as Mealy, Same}
use Rattle.mealy.specs.Arrivals.{More, AtMost, Exactly, Described}
use Rattle.machine.specs.Rows.{answer_at}
use Rattle.machine.specs.Shim.{shim_of}
use Rattle.machine.specs.declared.machine.Machine.{Machine}

-- the word of a refusal; and one of an output, which is a target fence's number or none, and of a next state
pub data ProperWord (targets states w : ℕ) : Type 0 where
  refusing : w ≡ 65024 → ProperWord targets states w
  passing : (w / 256 < targets) ⊎ (w / 256 ≡ 255) → w % 256 < states → ProperWord targets states w

-- the machine made: it tells how many situations there are, its rows describe the states, and all else of the array is as it was
pub record Making (m : Mealy Situation ℕ) (way : Way) (ups targets : ℕ) (rows : List ℕ) (x : Machine) (rows' : List ℕ) : Type 0 where
  pub way_number_is : x.way ≡ way_number way
  pub its_ups : x.ups ≡ ups
  pub its_targets : x.targets ≡ targets
  pub few_situations : AtMost m ◌≡◌ 4096
  pub situations : Exactly m ◌≡◌ x.situations
  pub few_states : x.states ≤ 255
  pub states : Described m (Same m) x.states (answer_at rows')
  pub size : length rows' ≡ length rows
  pub room : x.states * stride ≤ length rows
  pub words : (q a : ℕ) → q < x.states → a < letters_with ups → ProperWord targets x.states (at rows' (q * stride + a))
  pub absent : (q a : ℕ) → q < x.states → letters_with ups ≤ a → a < stride → at rows' (q * stride + a) ≡ 0
  pub kept : (p : ℕ) → x.states * stride ≤ p → at rows' p ≡ at rows p

-- no machine is made, by the refusal: these three and no other
pub data Unmade (m : Mealy Situation ℕ) (rows : List ℕ) : Refusal → Type 0 where
  crowded : More m ◌≡◌ 4096 → Unmade m rows Refusal.TooManySituations
  overfull : AtMost m ◌≡◌ 4096 → More m (Same m) 255 → Unmade m rows Refusal.TooManyStates
  roomless : {k : ℕ} {row : ℕ → ℕ → Answer ℕ ℕ} → AtMost m ◌≡◌ 4096 → k ≤ 255 → Described m (Same m) k row → length rows < k * stride
      → Unmade m rows Refusal.BufferTooSmall

-- what becomes of the rows, by the outcome; a refusal writes nothing
abbrev pub Built : Mealy Situation ℕ → Way → ℕ → ℕ → List ℕ → Outcome → List ℕ → Type 0
Built m way ups targets rows (Ok x) rows' = Making m way ups targets rows x rows'
Built m way ups targets rows (Err why) rows' = Unmade m rows why × (rows' ≡ rows)

-- an operation names sixteen fences at most: the first sixteen count
abbrev pub named : List ℕ → List ℕ
named fences = take 16 fences

-- what generating makes of a shim with these fences' packed tables on its two sides
abbrev pub Generated : Shim → List ℕ → List ℕ → List ℕ → Outcome → List ℕ → Type 0
Generated s ups fences rows r rows' =
    Built (shim_of s (named ups) (named fences)) s.way (length (named ups)) (length (named fences)) rows r rows'
