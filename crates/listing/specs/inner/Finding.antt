-- How the parts of an input are found, by places.
use Rattle.std.specs.Prelude.{ℕ, ◌-◌, ◌<◌, ◌≤◌, ◌≡◌, List, [], ◌∷◌, Bool, true, false, length, take, drop, Option, Some, None}
use Rattle.rule.specs.declared.way.Way.{Way}
use Rattle.listing.specs.declared.shape.Tail.{Tail}
use Rattle.listing.specs.Shape.{lines, joined, through, is_run, ending_of}

-- the first line has n bytes, with its line feed
pub record LineOf (t : List ℕ) (n : ℕ) : Type 0 where
  pub some : 0 < n
  pub inside : n ≤ length t
  pub first : lines t ≡ take n t ∷ lines (drop n t)

-- there is no line feed: what is left is neither a line `end` nor a run's
pub record NoLine (t : List ℕ) : Type 0 where
  pub no_text : through (lines t) ≡ None
  pub no_ending : ending_of (lines t) ≡ None
  pub no_run : (w : List ℕ) → ending_of (w ∷ lines t) ≡ None

abbrev pub LineEnd : List ℕ → Option ℕ → Type 0
LineEnd t (Some n) = LineOf t n
LineEnd t None = NoLine t

-- the text ends with n bytes
pub record TextOf (t : List ℕ) (n : ℕ) : Type 0 where
  pub inside : n ≤ length t
  pub whole : through (lines t) ≡ Some (record { text = take n t; rest = lines (drop n t) })

-- the first n bytes belong to it, and it goes on
pub record GoesOn (t : List ℕ) (n : ℕ) : Type 0 where
  pub some : 0 < n
  pub inside : n ≤ length t
  pub more : through (lines t) ≡ joined (take n t) (through (lines (drop n t)))

abbrev pub TextEnd : List ℕ → Option ℕ → Type 0
TextEnd t (Some n) = TextOf t n
TextEnd t None = through (lines t) ≡ None

-- the way, and where the stream begins; it ends before the last byte
pub record EndingOf (t : List ℕ) (way : Way) (at : ℕ) : Type 0 where
  pub inside : at < length t
  pub whole : ending_of (lines t) ≡ Some (record { way = way; stream = take (length t - 1 - at) (drop at t) })

abbrev pub EndingAt : List ℕ → Option Tail → Type 0
EndingAt t (Some tail) = EndingOf t tail.way tail.stream
EndingAt t None = ending_of (lines t) ≡ None

-- the run's line is all that is left
pub record RunOf (t : List ℕ) : Type 0 where
  pub only : lines t ≡ t ∷ []
  pub run : is_run t ≡ true

abbrev pub OnlyRun : List ℕ → Bool → Type 0
OnlyRun t true = RunOf t
OnlyRun t false = (w : List ℕ) → ending_of (w ∷ lines t) ≡ None
