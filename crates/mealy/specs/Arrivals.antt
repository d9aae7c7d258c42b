-- 01, "The machine": "The machine has one state for each such class. States are numbered in order of first arrival." Its table of refusals: 8, "the
-- reachable situations exceed 4,096"; 9, "the states exceed 255".
-- The situations and the states are counted alike, each under its relation R: equality, and being the same state (`Same`).
use Rattle.std.specs.Prelude.{ℕ, ◌≤◌, ◌<◌, ◌≡◌, cond, List, [], length, get_or, ltb}
use Rattle.std.proofs.Common.{le-ltb}
use Rattle.mealy.specs.Runs.{Answer, refused, taken, Machine, Accepted, reached}
use Rattle.mealy.specs.Order.{◌≺◌, ◌≼◌}

-- where the stream numbered i leads
abbrev pub arrival : {S O : Type 0} → Machine S O → List (List ℕ) → ℕ → S
arrival m ws i = reached m (get_or ws i [])

-- no two of the streams lead to related situations
abbrev pub Apart : {S O : Type 0} → Machine S O → (S → S → Type 0) → List (List ℕ) → Type 0
Apart m R ws = (i j : ℕ) → i < j → j < length ws → R (arrival m ws i) (arrival m ws j) → ⊥

abbrev pub AllAccepted : {S O : Type 0} → Machine S O → List (List ℕ) → Type 0
AllAccepted m ws = (i : ℕ) → i < length ws → Accepted m (get_or ws i [])

-- one of the streams leads to what s is related to
abbrev pub Known : {S O : Type 0} → Machine S O → (S → S → Type 0) → List (List ℕ) → S → Type 0
Known m R ws s = (i : ℕ) × (i < length ws) × R (arrival m ws i) s

-- the first arrivals: strictly rising, accepted, no two at related situations, and every accepted stream leads to what one of them
-- leads to that does not arrive after it
pub record Arrivals {S O : Type 0} (m : Machine S O) (R : S → S → Type 0) (ws : List (List ℕ)) : Type 0 where
  pub rising : (i j : ℕ) → i < j → j < length ws → get_or ws i [] ≺ get_or ws j []
  pub accepted : AllAccepted m ws
  pub apart : Apart m R ws
  pub covers : (w : List ℕ) → Accepted m w → (i : ℕ) × (i < length ws) × R (arrival m ws i) (reached m w) × (get_or ws i [] ≼ w)

-- there are more than n: so many accepted streams, no two of which lead to related situations
pub record More {S O : Type 0} (m : Machine S O) (R : S → S → Type 0) (n : ℕ) : Type 0 where
  pub streams : List (List ℕ)
  pub many : n < length streams
  pub accepted : AllAccepted m streams
  pub apart : Apart m R streams

-- there are at most n: so many streams, one of which leads to what any accepted stream leads to
pub record AtMost {S O : Type 0} (m : Machine S O) (R : S → S → Type 0) (n : ℕ) : Type 0 where
  pub streams : List (List ℕ)
  pub few : length streams ≤ n
  pub covers : (w : List ℕ) → Accepted m w → Known m R streams (reached m w)

-- there are exactly n: at most n, and more than any fewer
pub record Exactly {S O : Type 0} (m : Machine S O) (R : S → S → Type 0) (n : ℕ) : Type 0 where
  pub at_most : AtMost m R n
  pub more : (k : ℕ) → k < n → More m R k

-- a row's entry is the machine's answer at an arrival, with the number of the arrival that the longer stream leads to
abbrev pub Entry : {S O : Type 0} → Machine S O → (S → S → Type 0) → List (List ℕ) → ℕ → ℕ → Answer O ℕ → Type 0
Entry m R ws i a refused = m.step (arrival m ws i) a ≡ refused
Entry {S = S} m R ws i a (taken o j) =
    (t : S) × (m.step (arrival m ws i) a ≡ taken o t) × (j < length ws) × R (arrival m ws j) t

-- k numbers and their rows describe the machine: the arrivals are numbered in order
pub record Described {S O : Type 0} (m : Machine S O) (R : S → S → Type 0) (k : ℕ) (row : ℕ → ℕ → Answer O ℕ) : Type 0 where
  pub streams : List (List ℕ)
  pub first : Arrivals m R streams
  pub count : length streams ≡ k
  pub rows : (i a : ℕ) → i < k → a < m.letters → Entry m R streams i a (row i a)

-- the machine that rows over n letters describe, started at 0
abbrev pub numbered : {O : Type 0} → ℕ → (ℕ → ℕ → Answer O ℕ) → Machine ℕ O
numbered n row =
    record { letters = n; step = λ i a. cond (ltb a n) (row i a) refused; outside = λ i a h. rw (le-ltb a n h); fresh = 0 }
