-- What stands in a buffer that a case is tried on.
use Rattle.std.specs.Prelude.{◌≡◌, ℕ, ◌%◌, ◌<◌, Bool, true, false, cond, List, [], ◌∷◌, length, ◌==◌, slice_index}

-- whether every byte is `#`, of which buffers are full before a call
abbrev pub untouched : List ℕ → Bool
untouched [] = true
untouched (b ∷ rest) = cond (b == 35) (untouched rest) false

-- the first so many bytes are those of a piece, over and over; of a piece of nothing this says nothing
pub record Repeats (piece bytes : List ℕ) (n : ℕ) : Type 0 where
  pub each : (i : ℕ) → i < n → 0 < length piece → slice_index bytes i ≡ slice_index piece (i % length piece)
