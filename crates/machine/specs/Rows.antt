-- The machine in memory: a word for each state and letter, at a constant stride. A word is 256 times the fence byte, and the next state. 01, "The
-- machine image": "a fence byte (a number, FF none, FE refused) with the next state (0 where refused)", "zero where there is no such fence".
use Rattle.std.specs.Prelude.{ℕ, ◌+◌, ◌*◌, ◌/◌, ◌%◌, cond, List, eqb}
use Rattle.ground.specs.Bytes.{at}
use Rattle.operations.specs.Alphabet.{stride}
use Rattle.mealy.specs.Runs.{Answer, refused, taken}

-- what a word says
abbrev pub decoded : ℕ → Answer ℕ ℕ
decoded w = cond (eqb (w / 256) 254) refused (taken (w / 256) (w % 256))

-- the answer at a state to a letter
abbrev pub answer_at : List ℕ → ℕ → ℕ → Answer ℕ ℕ
answer_at rows i a = decoded (at rows (i * stride + a))
