-- How the situations are found: breadth first from the fresh one, letters in order, each unseen situation appended. So the streams by which
-- they are found are their first arrivals.
use Rattle.std.specs.Prelude.{ℕ, ◌≤◌, ◌<◌, ◌≡◌, ◌⊎◌, List, [], length, get_or}
use Rattle.mealy.specs.Runs.{Answer, refused, taken, Machine}
use Rattle.mealy.specs.Order.{◌≺◌, ◌≼◌, ◌▹◌}
use Rattle.mealy.specs.Arrivals.{arrival, Apart, AllAccepted}

-- letter a at number i is answered by its entry, which leads to a stream that does not arrive after i's with the letter
abbrev pub Met : {S O : Type 0} → Machine S O → List (List ℕ) → ℕ → ℕ → Answer O ℕ → Type 0
Met m ws i a refused = m.step (arrival m ws i) a ≡ refused
Met {S = S} m ws i a (taken o j) =
    (m.step (arrival m ws i) a ≡ taken o (arrival m ws j)) × (j < length ws) × (get_or ws j [] ≼ get_or ws i [] ▹ a)

-- candidate (j, b) comes before candidate (i, a)
abbrev pub Before : ℕ → ℕ → ℕ → ℕ → Type 0
Before j b i a = (j < i) ⊎ ((j ≡ i) × (b < a))

-- the streams found, and the rows of the candidates before (i, a)
pub record Exploring {S O : Type 0} (m : Machine S O) (ws : List (List ℕ)) (row : ℕ → ℕ → Answer O ℕ) (i a : ℕ) : Type 0 where
  pub starts : get_or ws 0 [] ≡ []
  pub some : 0 < length ws
  pub here : i ≤ length ws
  pub rising : (p q : ℕ) → p < q → q < length ws → get_or ws p [] ≺ get_or ws q []
  pub accepted : AllAccepted m ws
  pub apart : Apart m ◌≡◌ ws
  pub found : (p : ℕ) → 0 < p → p < length ws → (j : ℕ) × (b : ℕ) × Before j b i a × (get_or ws p [] ≡ get_or ws j [] ▹ b)
  pub met : (j b : ℕ) → Before j b i a → b < m.letters → Met m ws j b (row j b)
