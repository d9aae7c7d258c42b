-- The rows as they are written: a state's row is read off the first situation of its class.
use Rattle.std.specs.Prelude.{ℕ, ◌+◌, ◌-◌, ◌*◌, ◌/◌, ◌%◌, ◌≤◌, ◌<◌, ◌≡◌, cond, ◌⊎◌, List, length, ltb}
use Rattle.ground.specs.Bytes.{at}
use Rattle.operations.specs.Alphabet.{stride}

-- the word of a state whose first situation has word w in the table: refused, or the output and the class of the target
abbrev pub state_word : List ℕ → ℕ → ℕ
state_word classes w = cond (ltb w 4096) 65024 ((w / 4096 - 1) * 256 + at classes (w % 4096))

-- and 0 where the machine has not the letter
abbrev pub state_entry : List ℕ → List ℕ → ℕ → ℕ → ℕ → ℕ
state_entry table classes letters i a = cond (ltb a letters) (state_word classes (at table (i * stride + a))) 0

-- the first n words of row q are f's, and all else is as it was
pub record RowWritten (rows : List ℕ) (q : ℕ) (f : ℕ → ℕ) (n : ℕ) (rows' : List ℕ) : Type 0 where
  pub size : length rows' ≡ length rows
  pub words : (a : ℕ) → a < n → at rows' (q * stride + a) ≡ f a
  pub kept : (p : ℕ) → (p < q * stride) ⊎ (q * stride + n ≤ p) → at rows' p ≡ at rows p

-- the first n rows are f's, and all else is as it was
pub record RowsWritten (rows : List ℕ) (n : ℕ) (f : ℕ → ℕ → ℕ) (rows' : List ℕ) : Type 0 where
  pub size : length rows' ≡ length rows
  pub words : (q a : ℕ) → q < n → a < stride → at rows' (q * stride + a) ≡ f q a
  pub kept : (p : ℕ) → n * stride ≤ p → at rows' p ≡ at rows p

-- the words of the table are refusals, or have an output that is a byte
pub record Narrow (table : List ℕ) : Type 0 where
  pub narrow : (p : ℕ) → at table p < 1052672

-- where situation i is the first of class q its row is written, and otherwise nothing
pub data FirstWritten (class q : ℕ) (rows : List ℕ) (f : ℕ → ℕ) (rows' : List ℕ) (r : ℕ) : Type 0 where
  later : (class ≡ q → ⊥) → rows' ≡ rows → r ≡ q → FirstWritten class q rows f rows' r
  first : class ≡ q → RowWritten rows q f stride rows' → r ≡ q + 1 → FirstWritten class q rows f rows' r
