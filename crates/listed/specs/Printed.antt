-- What is printed. Document 01: "the names and way, the states, one line per state and operation (state, operation, fence byte or `-`, or `!` if
-- refused, next state), the direct run's output (nothing after `out ` if empty), its fences." "A `!` line ends in 0." "any refusal prints only
-- `refused N at K`". Operations are those of the machine's alphabet, l, L, s, S, then the upstream's fences.
use Rattle.std.specs.Prelude.{ℕ, List, [], ◌∷◌, ◌++◌}
use Rattle.ground.specs.Bytes.{bytes}
use Rattle.answers.specs.declared.Refusal.{Refusal}
use Rattle.answers.specs.Answer.{number_of, place_of}
use Rattle.operations.specs.Alphabet.{operation_of, fence_mark}
use Rattle.operations.specs.Operation.{byte_of}
use Rattle.rule.specs.declared.way.Way.{Way}
use Rattle.mealy.specs.Runs.{Answer, refused, taken}
use Rattle.printing.specs.Decimal.{decimal}
use Rattle.printing.specs.Turns.{in_turn}

abbrev pub way_word : Way → List ℕ
way_word Way.Full = bytes "full"
way_word Way.Sparing = bytes "sparing"

abbrev pub names_line : List ℕ → List ℕ → Way → List ℕ
names_line upstream target way = upstream ++ (bytes " " ++ (target ++ (bytes " " ++ (way_word way ++ bytes "\n"))))

-- a word and a number
abbrev pub number_line : List ℕ → ℕ → List ℕ
number_line word n = word ++ (decimal n ++ bytes "\n")

-- the mark of the fence byte, which is 254 where refused, and there alone (`decoded`); and the next state
abbrev pub answer_mark : Answer ℕ ℕ → ℕ
answer_mark refused = fence_mark 254
answer_mark (taken fence next) = fence_mark fence

abbrev pub next_state : Answer ℕ ℕ → ℕ
next_state refused = 0
next_state (taken fence next) = next

-- the line of a state and a letter of the alphabet
abbrev pub step_line : ℕ → ℕ → Answer ℕ ℕ → List ℕ
step_line state letter answer =
    decimal state ++ ((32 ∷ byte_of (operation_of letter) ∷ 32 ∷ answer_mark answer ∷ 32 ∷ []) ++ (decimal (next_state answer) ++ bytes "\n"))

-- the lines of a state, for the first letters; and of the first states
abbrev pub state_lines : ℕ → (ℕ → Answer ℕ ℕ) → ℕ → List ℕ
state_lines state row letters = in_turn (λ (letter : ℕ). step_line state letter (row letter)) letters

abbrev pub row_lines : (ℕ → ℕ → Answer ℕ ℕ) → ℕ → ℕ → List ℕ
row_lines row letters states = in_turn (λ (state : ℕ). state_lines state (row state) letters) states

abbrev pub out_line : List ℕ → List ℕ
out_line output = bytes "out " ++ (output ++ bytes "\n")

-- what a listing tells: the names of two models and the way, so many states of so many letters with their answers, the run's output and its
-- fences
pub record Listing : Type 0 where
  pub upstream : List ℕ
  pub target : List ℕ
  pub way : Way
  pub states : ℕ
  pub letters : ℕ
  pub row : ℕ → ℕ → Answer ℕ ℕ
  pub output : List ℕ
  pub fences : ℕ

abbrev pub listing : Listing → List ℕ
listing l =
    names_line l.upstream l.target l.way ++ (number_line (bytes "states ") l.states
    ++ (row_lines l.row l.letters l.states ++ (out_line l.output ++ number_line (bytes "fences ") l.fences)))

-- the line of a refusal
abbrev pub refused_at : ℕ → ℕ → List ℕ
refused_at number place = bytes "refused " ++ (decimal number ++ number_line (bytes " at ") place)

abbrev pub refusal_line : Refusal → List ℕ
refusal_line why = refused_at (number_of why) (place_of why)
