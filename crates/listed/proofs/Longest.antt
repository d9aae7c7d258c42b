-- The longest listing: 42 bytes of names and way, 11 of the states' number, 59,000 of lines, 8,196 of output and 12 of fences. A state has 20 lines,
-- each of 9 bytes and the digits of its number, which are one for 10 of 255 states, two for 90 and three for 155. So every listing fits 73,728 bytes,
-- and the line of a refusal 53. Assumes nothing.
use Prim.Native.Nat.{ℕ, zero, suc, ◌+◌, ◌*◌, ◌^◌, ◌≤◌, ◌<◌}
use mathlib.Core.Path.{◌≡◌, refl}
use mathlib.Core.List.{List, [], ◌∷◌, ◌++◌}
use native.Mathlib.Omega.{arith}
use native.Mathlib.Decide.{dec_lt}
use lib.ListN.{length, length-append}
use Rattle.ground.specs.Bytes.{bytes}
use Rattle.operations.specs.Alphabet.{operation_of}
use Rattle.operations.specs.Operation.{byte_of}
use Rattle.rule.specs.declared.way.Way.{Way}
use Rattle.printing.specs.Decimal.{decimal}
use Rattle.printing.specs.Turns.{in_turn}
use Rattle.printing.proofs.Decimals.{length_digits}
use Rattle.printing.proofs.Turns.{length_turn, turns_short}
use Rattle.mealy.specs.Runs.{Answer}
use Rattle.listed.specs.Printed.{way_word, names_line, number_line, out_line, Listing, listing, refused_at, answer_mark, next_state, step_line}
use Rattle.listed.specs.Printed.{state_lines, row_lines}
use Rattle.listed.specs.inner.Limits.{Limited}

-- lengths of parts
number-length : (word : List ℕ) (n k : ℕ) → length (decimal n) ≤ k → length (number_line word n) ≤ length word + k + 1
number-length word n k h = omega (arith, length-append word (decimal n ++ bytes "\n"), length-append (decimal n) (bytes "\n"))

way-length : (way : Way) → length (way_word way ++ bytes "\n") ≤ 8
way-length Way.Full = omega arith
way-length Way.Sparing = omega arith

names_length : (u t : List ℕ) (way : Way) → length u ≤ 16 → length t ≤ 16 → length (names_line u t way) ≤ 42
names_length u t way lu lt =
    let w : List ℕ = way_word way ++ bytes "\n" in
    omega (
      arith,
      length-append u (bytes " " ++ (t ++ (bytes " " ++ w))),
      length-append t (bytes " " ++ w),
      way-length way,
    )

out_length : (output : List ℕ) → length output ≤ 8191 → length (out_line output) ≤ 8196
out_length output h = omega (arith, length-append output (bytes "\n"))

-- of a state whose number has at most d digits
step_length : (s a : ℕ) (x : Answer ℕ ℕ) (d : ℕ) → length (decimal s) ≤ d → next_state x < 1000 → length (step_line s a x) ≤ d + 9
step_length s a x d hs hx =
    let last : List ℕ = decimal (next_state x) ++ bytes "\n" in
    omega (
      arith,
      length-append (decimal s) ((32 ∷ byte_of (operation_of a) ∷ 32 ∷ answer_mark x ∷ 32 ∷ []) ++ last),
      length-append (decimal (next_state x)) (bytes "\n"),
      hs,
      length_digits 2 (next_state x) hx,
    )

state_length : (s : ℕ) (row : ℕ → Answer ℕ ℕ) (n d e : ℕ) → length (decimal s) ≤ d → d + 9 ≡ e
    → ((a : ℕ) → a < n → next_state (row a) < 1000) → length (state_lines s row n) ≤ n * e
state_length s row n d e hs w h =
    turns_short (λ (a : ℕ). step_line s a (row a)) n e (λ a l. omega (arith, w, step_length s a (row a) d hs (h a l)))

-- the lines of k states have n bytes at most: 200 for a state of one digit, 220 for one of two, 240 for one of three
data Lines (k n : ℕ) : Type 0 where
  one : k ≤ 10 → n ≤ 200 * k → Lines k n
  two : 10 ≤ k → k ≤ 100 → n + 200 ≤ 220 * k → Lines k n
  three : 100 ≤ k → n + 2200 ≤ 240 * k → Lines k n

lines-length : (row : ℕ → ℕ → Answer ℕ ℕ) (letters k : ℕ) → letters ≤ 20 → k ≤ 255
    → ((i a : ℕ) → i < k → a < letters → next_state (row i a) < 1000) → Lines k (length (row_lines row letters k))
unfolding in_turn
lines-length row letters zero hl hk h = one (omega arith) (omega arith)
lines-length row letters (suc k) hl hk h =
    by (lines-length row letters k hl (omega arith) (λ i a l m. h i a (omega arith) m))
  where
    both : length (row_lines row letters (suc k)) ≡ length (row_lines row letters k) + length (state_lines k (row k) letters)
    both = length_turn (λ (s : ℕ). state_lines s (row s) letters) k

    last : (d e : ℕ) → length (decimal k) ≤ d → d + 9 ≡ e → length (state_lines k (row k) letters) ≤ letters * e
    last d e n w = state_length k (row k) letters d e n w (λ a l. h k a (omega arith) l)

    by : Lines k (length (row_lines row letters k)) → Lines (suc k) (length (row_lines row letters (suc k)))
    by (one l p) =
        elim (dec_lt k 10) [
          | yes m ↦ one (omega arith) (omega (arith, both, p, last 1 10 (length_digits 0 k m) refl))
          | no m ↦ two (omega arith) (omega arith) (omega (arith, both, p, last 2 11 (length_digits 1 k (omega arith)) refl))
        ]
    by (two g l p) =
        elim (dec_lt k 100) [
          | yes m ↦ two (omega arith) (omega arith) (omega (arith, both, p, last 2 11 (length_digits 1 k m) refl))
          | no m ↦ three (omega arith) (omega (arith, both, p, last 3 12 (length_digits 2 k (omega arith)) refl))
        ]
    by (three g p) = three (omega arith) (omega (arith, both, p, last 3 12 (length_digits 2 k (omega arith)) refl))

most : {k n : ℕ} → Lines k n → k ≤ 255 → n ≤ 59000
most (one l p) h = omega arith
most (two g l p) h = omega arith
most (three g p) h = omega arith

-- the listing of a machine within the limits
pub listing-length : (l : Listing) → Limited l → length (listing l) ≤ 67261
listing-length l m =
    let fences : List ℕ = number_line (bytes "fences ") l.fences in
    let run : List ℕ = out_line l.output ++ fences in
    let rows : List ℕ = row_lines l.row l.letters l.states in
    let states : List ℕ = number_line (bytes "states ") l.states in
    let names : List ℕ = names_line l.upstream l.target l.way in
    omega (
      arith,
      length-append names (states ++ (rows ++ run)),
      length-append states (rows ++ run),
      length-append rows run,
      length-append (out_line l.output) fences,
      names_length l.upstream l.target l.way m.short_upstream m.short_target,
      number-length (bytes "states ") l.states 3 (length_digits 2 l.states (omega (arith, m.few_states))),
      most (lines-length l.row l.letters l.states m.few_letters m.few_states m.next_states) m.few_states,
      out_length l.output m.short_output,
      number-length (bytes "fences ") l.fences 4 (length_digits 3 l.fences (omega (arith, m.few_fences))),
      m.few_states,
    )

-- the line of a refusal, by a number and a place of 64 bits
pub refused-length : (number place : ℕ) → number < 10 ^ 20 → place < 10 ^ 20 → length (refused_at number place) ≤ 53
refused-length number place n p =
    omega (
      arith,
      length-append (decimal number) (number_line (bytes " at ") place),
      length_digits 19 number n,
      number-length (bytes " at ") place 20 (length_digits 19 place p),
    )
