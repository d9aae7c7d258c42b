-- Counting on the rule alone. 01, "The machine": "Two accepted streams lead to the same state exactly when every continuation gets the same further
-- output and refusals, length limits set aside." Its table of refusals: 8, "the reachable situations exceed 4,096"; 9, "the states exceed 255".
use Rattle.std.specs.Prelude.{ℕ, ◌<◌, ◌≡◌, List, [], length, get_or}
use Rattle.rule.specs.declared.way.Way.{Way}
use Rattle.rule.specs.Stream.{Stream}
use Rattle.rule.specs.Pairs.{Model}
use Rattle.rule.specs.Rule.{done, onward, run}
use Rattle.rule.specs.Situation.{situation}
use Rattle.mealy.specs.Runs.{Machine, reached}
use Rattle.mealy.specs.Order.{◌≼◌}
use Rattle.machine.specs.Shim.{letters_of}
use Rattle.machine.specs.Spoken.{Letters, operations}

-- two accepted streams, each with its output, are in the same situation
abbrev pub SameSituation : Model → Model → Stream → Stream → Stream → Stream → Type 0
SameSituation up target v out w out' = situation up target v out ≡ situation up target w out'

-- and lead to the same state
abbrev pub SameState : Way → Model → Model → Stream → Stream → Stream → Stream → Type 0
SameState way up target v out w out' =
    (x : List ℕ) → Letters (letters_of up) x → onward way up target v out (operations x) ≡ onward way up target w out' (operations x)

-- more than n accepted streams, no two of which are related
pub record MoreThan (n : ℕ) (way : Way) (up target : Model) (R : Stream → Stream → Stream → Stream → Type 0) : Type 0 where
  pub streams : List (List ℕ)
  pub many : n < length streams
  pub letters : (i : ℕ) → i < length streams → Letters (letters_of up) (get_or streams i [])
  pub accepted : (i : ℕ) → i < length streams → (out : Stream) × (run way up target (operations (get_or streams i [])) ≡ done out)
  pub apart : (i j : ℕ) → i < j → j < length streams → (out out' : Stream) → run way up target (operations (get_or streams i [])) ≡ done out
      → run way up target (operations (get_or streams j [])) ≡ done out'
      → R (operations (get_or streams i [])) out (operations (get_or streams j [])) out' → ⊥

-- 8: more than 4,096 situations; 9: more than 255 states
abbrev pub ManySituations : Way → Model → Model → Type 0
ManySituations way up target = MoreThan 4096 way up target (SameSituation up target)

abbrev pub ManyStates : Way → Model → Model → Type 0
ManyStates way up target = MoreThan 255 way up target (SameState way up target)

-- there are n: more than any fewer, and not more than n
pub record NumberOf (n : ℕ) (way : Way) (up target : Model) (R : Stream → Stream → Stream → Stream → Type 0) : Type 0 where
  pub more : (k : ℕ) → k < n → MoreThan k way up target R
  pub no_more : MoreThan n way up target R → ⊥

-- A machine on k states, of whatever kind they are: those that streams of the upstream model's letters lead to have numbers below k, and no two of
-- them the same number.
pub record OnStates {S : Type 0} (up : Model) (m : Machine S Stream) (k : ℕ) : Type 0 where
  pub number : S → ℕ
  pub below : (w : List ℕ) → Letters (letters_of up) w → number (reached m w) < k
  pub apart : (v w : List ℕ) → Letters (letters_of up) v → Letters (letters_of up) w → number (reached m v) ≡ number (reached m w)
      → reached m v ≡ reached m w

-- the first arrival at a state of a machine: an accepted stream that leads there, and that no accepted stream that leads there arrives before
pub record FirstArrival {S : Type 0} (way : Way) (up target : Model) (m : Machine S Stream) (i : S) (v : List ℕ) : Type 0 where
  pub letters : Letters (letters_of up) v
  pub out : Stream
  pub accepted : run way up target (operations v) ≡ done out
  pub leads : reached m v ≡ i
  pub first : (w : List ℕ) → Letters (letters_of up) w → (out' : Stream) → run way up target (operations w) ≡ done out' → reached m w ≡ i → v ≼ w
