-- What each stage of generating is entered with.
use Rattle.std.specs.Prelude.{ℕ, ◌≤◌, ◌<◌, ◌≡◌, List, length}
use Rattle.ground.specs.Bytes.{at}
use Rattle.operations.specs.Alphabet.{letters_with}
use Rattle.mealy.specs.inner.Classes.{States}
use Rattle.machine.specs.Outcome.{Outcome}
use Rattle.machine.specs.declared.step.Sides.{Sides}
use Rattle.machine.specs.Generated.{Built}
use Rattle.machine.specs.declared.index.Index.{Index}
use Rattle.machine.specs.inner.Sides.{ruled}
use Rattle.machine.specs.inner.Index.{capacity}
use Rattle.machine.specs.inner.Words.{words, tabled}
use Rattle.machine.specs.inner.Explore.{Explored, Surveyed, Blank}

-- no more fences on either side than an operation can name
pub record Few (s : Sides) : Type 0 where
  pub few_ups : length s.ups.now ≤ 16
  pub few_fences : length s.fences.now ≤ 16

-- what a stage promises: as `Generated`, of fences that an operation can name
abbrev pub Makes : Sides → List ℕ → Outcome → List ℕ → Type 0
Makes s rows r rows' = Built (ruled s) s.shim.way (length s.ups.now) (length s.fences.now) rows r rows'

-- a table of answers in which nothing has been written
pub record Unused (table : List ℕ) : Type 0 where
  pub whole : length table ≡ words
  pub blank : Blank table

-- candidate (i, a) is the next to be answered
pub record Candidate (s : Sides) (x : Index) (table : List ℕ) (i a : ℕ) : Type 0 where
  pub few : Few s
  pub explored : Explored (ruled s) x table i a
  pub here : i < x.count
  pub letter : a < letters_with (length s.ups.now)

-- every situation has been found, and the table has its answers
pub record Searched (s : Sides) (table : List ℕ) (count : ℕ) : Type 0 where
  pub few : Few s
  pub surveyed : Surveyed (ruled s) table count

-- and every state, as a class of them
pub record Sorted (s : Sides) (table classes : List ℕ) (count states : ℕ) : Type 0 where
  pub searched : Searched s table count
  pub all_classes : length classes ≡ capacity
  pub few_states : states ≤ 255
  pub states_found : States (tabled (letters_with (length s.ups.now)) table) count (at classes) states
