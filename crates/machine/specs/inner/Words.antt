-- The table of answers: a word for each situation and letter, at a constant stride. A word of a refusal is below 4096; else it is 4096 times one
-- more than the output, and the target.
use Rattle.std.specs.Prelude.{ℕ, ◌+◌, ◌-◌, ◌*◌, ◌/◌, ◌%◌, ◌<◌, ◌≡◌, cond, List, length, ltb}
use Rattle.ground.specs.Bytes.{at}
use Rattle.operations.specs.Alphabet.{stride}
use Rattle.mealy.specs.Runs.{Answer, refused, taken, Machine}
use Rattle.mealy.specs.Arrivals.{numbered}
use Rattle.machine.specs.inner.Index.{capacity}

abbrev pub words : ℕ
words = capacity * stride

abbrev pub answer : ℕ → Answer ℕ ℕ
answer w = cond (ltb w 4096) refused (taken (w / 4096 - 1) (w % 4096))

abbrev pub row : List ℕ → ℕ → ℕ → Answer ℕ ℕ
row table i a = answer (at table (i * stride + a))

-- a table of answers, and a place in it for situation i and letter a
pub record Slot (table : List ℕ) (i a : ℕ) : Type 0 where
  pub whole : length table ≡ words
  pub situation : i < capacity
  pub letter : a < stride

-- the machine that a table tells of
abbrev pub tabled : ℕ → List ℕ → Machine ℕ ℕ
tabled letters table = numbered letters (row table)

-- what a word shows of its situation, where situations have classes
abbrev pub seen : List ℕ → ℕ → ℕ
seen classes w = cond (ltb w 4096) 0 (w / 4096 * 256 + at classes (w % 4096))

-- the class of situation i with what letter a shows of it
abbrev pub key : List ℕ → List ℕ → ℕ → ℕ → ℕ
key table classes a i = at classes i + 256 * seen classes (at table (i * stride + a))
