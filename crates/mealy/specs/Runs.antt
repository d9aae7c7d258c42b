-- 01, "The machine": "Two accepted streams lead to the same state exactly when every continuation gets the same further output and refusals,
-- length limits set aside."
-- A machine answers one letter at a time. Its letters are the places of its alphabet, 0 upwards; a stream is a list of letters, of any length.
use Rattle.std.specs.Prelude.{ℕ, suc, ◌≤◌, ◌≡◌, Bool, true, false, List, [], ◌∷◌, T}

-- what one letter gets: a refusal, or an output and where it leads
pub data Answer (O S : Type 0) : Type 0 where
  refused : Answer O S
  taken : O → S → Answer O S

-- S are the situations and O the outputs; a letter that is not in the alphabet is refused
pub record Machine (S O : Type 0) : Type 0 where
  pub letters : ℕ
  pub step : S → ℕ → Answer O S
  pub outside : (s : S) (a : ℕ) → letters ≤ a → step s a ≡ refused
  pub fresh : S

-- what a stream gets: a refusal at a place, counted from its start, or the outputs of its letters in order
pub data Got (O : Type 0) : Type 0 where
  refusal : ℕ → Got O
  output : List O → Got O

-- what a stream gets whose first letter gets the output o, and whose rest gets what is given
abbrev pub preceded : {O : Type 0} → O → Got O → Got O
preceded o (refusal k) = refusal (suc k)
preceded o (output os) = output (o ∷ os)

abbrev pub get : {S O : Type 0} → Answer O S → (S → Got O) → Got O
get refused rest = refusal 0
get (taken o t) rest = preceded o (rest t)

-- the run of a stream from a situation
abbrev pub gets : {S O : Type 0} → Machine S O → S → List ℕ → Got O
gets m s [] = output []
gets m s (a ∷ w) = get (m.step s a) (λ t. gets m t w)

abbrev pub go : {S O : Type 0} → Answer O S → S → (S → S) → S
go refused s rest = s
go (taken o t) s rest = rest t

-- where a stream leads that is accepted from a situation
abbrev pub ends : {S O : Type 0} → Machine S O → S → List ℕ → S
ends m s [] = s
ends m s (a ∷ w) = go (m.step s a) s (λ t. ends m t w)

abbrev pub is_output : {O : Type 0} → Got O → Bool
is_output (refusal k) = false
is_output (output os) = true

-- a stream is accepted, from a situation, and from the fresh one
abbrev pub AcceptedFrom : {S O : Type 0} → Machine S O → S → List ℕ → Type 0
AcceptedFrom m s w = T (is_output (gets m s w))

abbrev pub Accepted : {S O : Type 0} → Machine S O → List ℕ → Type 0
Accepted m w = AcceptedFrom m m.fresh w

-- where an accepted stream leads
abbrev pub reached : {S O : Type 0} → Machine S O → List ℕ → S
reached m w = ends m m.fresh w

-- two situations are the same state: every continuation gets the same outputs and the same refusals
pub record Same {S O : Type 0} (m : Machine S O) (s t : S) : Type 0 where
  pub same : (w : List ℕ) → gets m s w ≡ gets m t w
