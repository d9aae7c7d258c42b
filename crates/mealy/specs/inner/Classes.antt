-- How the states are found among situations that are numbered 0 to k - 1: each has a class, and classes are split by what the letters show.
use Rattle.std.specs.Prelude.{ℕ, ◌≤◌, ◌<◌, ◌≡◌, ◌↔◌}
use Rattle.mealy.specs.Runs.{Answer, refused, taken, Machine, Same}

-- n classes of k things, numbered in the order in which they first occur: class q occurs first at `firsts q`
pub record Numbering (k : ℕ) (class : ℕ → ℕ) (n : ℕ) : Type 0 where
  pub below : (i : ℕ) → i < k → class i < n
  pub firsts : ℕ → ℕ
  pub first : (q : ℕ) → q < n → (firsts q < k) × (class (firsts q) ≡ q) × ((j : ℕ) → j < firsts q → class j < q)

-- no step leads out of the k situations
pub record Closed {O : Type 0} (m : Machine ℕ O) (k : ℕ) : Type 0 where
  pub stays : (i a : ℕ) (o : O) (j : ℕ) → i < k → m.step i a ≡ taken o j → j < k

-- an answer with the class of its target in the target's place
abbrev pub classed : {O : Type 0} → (ℕ → ℕ) → Answer O ℕ → Answer O ℕ
classed class refused = refused
classed class (taken o j) = taken o (class j)

-- same states are never parted
abbrev pub Coarse : {O : Type 0} → Machine ℕ O → ℕ → (ℕ → ℕ) → Type 0
Coarse m k class = (i j : ℕ) → i < k → j < k → Same m i j → class i ≡ class j

-- what letter a shows does not part a class
abbrev pub Stable : {O : Type 0} → Machine ℕ O → ℕ → (ℕ → ℕ) → ℕ → Type 0
Stable m k class a = (i j : ℕ) → i < k → j < k → class i ≡ class j → classed class (m.step i a) ≡ classed class (m.step j a)

-- the finer classes, of the first k situations, are the old ones split by what letter a shows
abbrev pub Split : {O : Type 0} → Machine ℕ O → ℕ → (ℕ → ℕ) → ℕ → (ℕ → ℕ) → Type 0
Split m k class a finer =
    (i j : ℕ) → i < k → j < k → (finer i ≡ finer j) ↔ ((class i ≡ class j) × (classed class (m.step i a) ≡ classed class (m.step j a)))

-- n classes in the course of a round, which began with `began` classes and has split them by the letters below a
pub record Round {O : Type 0} (m : Machine ℕ O) (k began : ℕ) (class : ℕ → ℕ) (n a : ℕ) : Type 0 where
  pub numbering : Numbering k class n
  pub coarse : Coarse m k class
  pub grown : began ≤ n
  pub stable : n ≡ began → (b : ℕ) → b < a → Stable m k class b

-- one class is one state
pub record States {O : Type 0} (m : Machine ℕ O) (k : ℕ) (class : ℕ → ℕ) (n : ℕ) : Type 0 where
  pub numbering : Numbering k class n
  pub states : (i j : ℕ) → i < k → j < k → (class i ≡ class j) ↔ Same m i j
