-- What exploring has found: the situations so far, with the streams by which they were found, and the table of the candidates before (i, a).
use Rattle.std.specs.Prelude.{ℕ, ◌+◌, ◌*◌, ◌≤◌, ◌<◌, ◌≡◌, ◌⊎◌, List, length, set, Option, Some, None, ⊤}
use Rattle.ground.specs.Bytes.{at}
use Rattle.operations.specs.Alphabet.{stride}
use Rattle.rule.specs.declared.situation.Situation.{Situation}
use Rattle.rule.specs.Situation.{fresh}
use Rattle.mealy.specs.Runs.{Answer, refused, taken, Machine}
use Rattle.mealy.specs.Arrivals.{arrival, More}
use Rattle.mealy.specs.inner.Exploring.{Exploring}
use Rattle.machine.specs.declared.index.Index.{Index}
use Rattle.machine.specs.inner.Index.{capacity, need_at, low_at, Linked, Placed, Full}
use Rattle.machine.specs.inner.Words.{words, answer, row}
use Rattle.machine.specs.inner.Writing.{Narrow}

-- the situation at a place
abbrev pub situation_at : List (ℕ × ℕ) → ℕ → Situation
situation_at pairs p = record { need = record { packed = need_at pairs p }; low = record { packed = low_at pairs p } }

-- an output is a target fence's number, or 255 for none
abbrev pub Output : ℕ → Type 0
Output o = (o < 16) ⊎ (o ≡ 255)

pub record Explored (m : Machine Situation ℕ) (x : Index) (table : List ℕ) (i a : ℕ) : Type 0 where
  pub streams : List (List ℕ)
  pub size : length streams ≡ x.count
  pub exploring : Exploring m streams (row table) i a
  pub linked : Linked x
  pub situations : (p : ℕ) → p < x.count → situation_at x.pairs p ≡ arrival m streams p
  pub whole : length table ≡ words
  pub narrow : Narrow table
  pub outputs : (p o j : ℕ) → answer (at table p) ≡ taken o j → Output o

-- the place of a situation, which is its two numbers; and that there is no room for it
abbrev pub PlacedAt : Index → Situation → Index → ℕ → Type 0
PlacedAt x t x' q = Placed x t.need.packed t.low.packed x' q

abbrev pub FullAt : Index → Situation → Type 0
FullAt x t = Full x t.need.packed t.low.packed

-- the next situation's place is stored with the output, as the word of (i, a)
pub record Stored (x : Index) (table : List ℕ) (i a o : ℕ) (next : Situation) (x' : Index) (table' : List ℕ) : Type 0 where
  pub place : ℕ
  pub placed : PlacedAt x next x' place
  pub word : table' ≡ set table (i * stride + a) ((o + 1) * 4096 + place)

-- or there is no room for the situation
abbrev pub StoredIf : Index → List ℕ → ℕ → ℕ → ℕ → Situation → Index → List ℕ → Option ⊤ → Type 0
StoredIf x table i a o next x' table' (Some _) = Stored x table i a o next x' table'
StoredIf x table i a o next x' table' None = FullAt x next

-- what a step's answer means
abbrev pub meant : Option (ℕ × Situation) → Answer ℕ Situation
meant None = refused
meant (Some (o, s)) = taken o s

-- an answer that can be noted: its output is a byte
pub record Notable (y : Option (ℕ × Situation)) : Type 0 where
  pub byte : (o : ℕ) (next : Situation) → y ≡ Some (o, next) → o < 256

-- the answer to (i, a) is noted: its situation is stored; or the table has the word of a refusal, and the index is as it was
pub data Noted (x : Index) (table : List ℕ) (i a : ℕ) (y : Option (ℕ × Situation)) (x' : Index) (table' : List ℕ) (r : Option ⊤) : Type 0 where
  passed : {o : ℕ} {next : Situation} → y ≡ Some (o, next) → StoredIf x table i a o next x' table' r → Noted x table i a y x' table' r
  barred : y ≡ None → x' ≡ x → table' ≡ set table (i * stride + a) 0 → r ≡ Some tt → Noted x table i a y x' table' r

-- how exploring goes on to candidate (i, a), with as many situations at least
pub record Onward (m : Machine Situation ℕ) (count : ℕ) (x : Index) (table : List ℕ) (i a : ℕ) : Type 0 where
  pub grown : count ≤ x.count
  pub explored : Explored m x table i a

-- or there are more than there is room for
abbrev pub OnwardIf : Machine Situation ℕ → ℕ → Index → List ℕ → ℕ → ℕ → Option ⊤ → Type 0
OnwardIf m count x table i a (Some _) = Onward m count x table i a
OnwardIf m count x table i a None = More m ◌≡◌ capacity

-- exploring has come to its end, whatever index it kept: there are as many rows as situations
pub record Surveyed (m : Machine Situation ℕ) (table : List ℕ) (count : ℕ) : Type 0 where
  pub index : Index
  pub all : index.count ≡ count
  pub explored : Explored m index table count 0

abbrev pub SurveyedIf : Machine Situation ℕ → List ℕ → Option ℕ → Type 0
SurveyedIf m table (Some r) = Surveyed m table r
SurveyedIf m table None = More m ◌≡◌ capacity

-- nothing has been written
pub record Blank (table : List ℕ) : Type 0 where
  pub blank : (p : ℕ) → at table p ≡ 0

-- one situation has been found, the fresh one
pub record Fresh (x : Index) : Type 0 where
  pub linked : Linked x
  pub one : x.count ≡ 1
  pub situation : situation_at x.pairs 0 ≡ fresh
