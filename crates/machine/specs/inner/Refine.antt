-- What splitting the classes by one letter gives.
use Rattle.std.specs.Prelude.{ℕ, ◌≤◌, ◌<◌, ◌≡◌, ◌↔◌, List, length, Option, Some, None}
use Rattle.ground.specs.Bytes.{at}
use Rattle.operations.specs.Alphabet.{stride}
use Rattle.mealy.specs.Runs.{Machine}
use Rattle.mealy.specs.inner.Classes.{Numbering, Closed, Coarse, Round, States}
use Rattle.machine.specs.inner.Index.{capacity}

-- two things have one class exactly where they have one key
abbrev pub ByKey : ℕ → (ℕ → ℕ) → (ℕ → ℕ) → Type 0
ByKey k key class = (i j : ℕ) → i < k → j < k → (class i ≡ class j) ↔ (key i ≡ key j)

-- the k things are numbered by their keys, in the order of first occurrence
pub record Named (k : ℕ) (key : ℕ → ℕ) (classes : List ℕ) (r : ℕ) : Type 0 where
  pub few : r ≤ 255
  pub numbering : Numbering k (at classes) r
  pub by_key : ByKey k key (at classes)

-- already the first p of them have 256 keys
pub record Crowded (k : ℕ) (key : ℕ → ℕ) : Type 0 where
  pub p : ℕ
  pub class : ℕ → ℕ
  pub le : p ≤ k
  pub numbering : Numbering p class 256
  pub by_key : ByKey p key class

abbrev pub NamedIf : ℕ → (ℕ → ℕ) → List ℕ → Option ℕ → Type 0
NamedIf k key classes (Some r) = Named k key classes r
NamedIf k key classes None = Crowded k key

-- the first p of k situations are known to be 256 states
pub record Crowd (m : Machine ℕ ℕ) (k : ℕ) : Type 0 where
  pub p : ℕ
  pub class : ℕ → ℕ
  pub le : p ≤ k
  pub numbering : Numbering p class 256
  pub coarse : Coarse m p class

-- after a round of splitting by every letter: r classes; or more than 255
pub record Rounded (m : Machine ℕ ℕ) (k began : ℕ) (classes : List ℕ) (r : ℕ) : Type 0 where
  pub few : r ≤ 255
  pub round : Round m k began (at classes) r m.letters

abbrev pub RoundedIf : Machine ℕ ℕ → ℕ → ℕ → List ℕ → Option ℕ → Type 0
RoundedIf m k began classes (Some r) = Rounded m k began classes r
RoundedIf m k began classes None = Crowd m k

-- after the last round: r classes, each one state; or more than 255
pub record Refined (m : Machine ℕ ℕ) (k : ℕ) (classes : List ℕ) (r : ℕ) : Type 0 where
  pub few : r ≤ 255
  pub states : States m k (at classes) r

abbrev pub RefinedIf : Machine ℕ ℕ → ℕ → List ℕ → Option ℕ → Type 0
RefinedIf m k classes (Some r) = Refined m k classes r
RefinedIf m k classes None = Crowd m k

-- what a round is begun with
pub record Begun (m : Machine ℕ ℕ) (k : ℕ) (classes : List ℕ) (began : ℕ) : Type 0 where
  pub closed : Closed m k
  pub fits : k ≤ capacity
  pub letters : m.letters ≤ stride
  pub few : began ≤ 255
  pub room : length classes ≡ capacity
  pub numbering : Numbering k (at classes) began
  pub coarse : Coarse m k (at classes)
