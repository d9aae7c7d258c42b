-- The contract of each public function allows one result: it is an equation, or what is delivered is determined; of `repeat` one final buffer, since
-- each byte of it is one of the piece, and a slice keeps its length. Assumes nothing.
use Rattle.std.proofs.Common.{◌≡◌, ℕ, ◌<◌, min, Bool, List, length, get_or, take, drop, sym, refl, ap, ◌∙◌, arith, Bor}
use native.Mathlib.Decide.{dec_lt}
use Rattle.std.specs.Prelude.{Option, Some, None}
use Rattle.std.specs.Option.{option_map}
use Rattle.io.specs.Counts.{IsPrefixLen}
use Rattle.answers.specs.Answer.{Answer, numbers_of}
use Rattle.answers.specs.Given.{gives, Delivers}
use Rattle.answers.proofs.Given.{delivers_one}
use Rattle.cases.specs.Buffer.{untouched, Repeats}
use Rattle.cases.specs.declared.fields.Groups.{Groups}
use Rattle.cases.specs.Groups.{GivesGroup}
use Rattle.cases.specs.Fields.{first_of, from, number_in}
use Rattle.cases.specs.Printed.{with_blanks}
use Rattle.cases.proofs.Buffers.{repeats_one}

pub front_one : (bytes : List ℕ) (n : ℕ) {r r' : List ℕ} → r ≡ take n bytes → r' ≡ take n bytes → r ≡ r'
front_one bytes n p q = p ∙ sym q

pub at_most_one : (room : ℕ) (buffer : List ℕ) {r r' : ℕ} → IsPrefixLen r buffer × (r ≡ min room (length buffer))
    → IsPrefixLen r' buffer × (r' ≡ min room (length buffer)) → r ≡ r'
at_most_one room buffer p q = p.1 ∙ sym q.1

pub repeat_one : (piece out after after' : List ℕ) → length after ≡ length out → length after' ≡ length out
    → Repeats piece after (length after) × (length piece ≡ 0 → after ≡ out)
    → Repeats piece after' (length after') × (length piece ≡ 0 → after' ≡ out) → after ≡ after'
repeat_one piece out after after' kept kept' p q = by (dec_lt 0 (length piece))
  where
    by : Dec (0 < length piece) → after ≡ after'
    by (yes some) = repeats_one piece after after' (kept ∙ sym kept') some p.0 q.0
    by (no none) = p.1 (omega arith) ∙ sym (q.1 (omega arith))

pub kept_one : (buffer : List ℕ) (place : ℕ) {r r' : Bool} → r ≡ untouched (drop place buffer) → r' ≡ untouched (drop place buffer) → r ≡ r'
kept_one buffer place p q = p ∙ sym q

pub answer_text_one : (answer : Answer) {out after after' : List ℕ} {r r' : Answer}
    → Delivers (gives (with_blanks (numbers_of answer)) 0 0) out r after → Delivers (gives (with_blanks (numbers_of answer)) 0 0) out r' after'
    → (r ≡ r') × (after ≡ after')
answer_text_one answer = delivers_one refl

pub output_of_one : (answer : Answer) (buffer : List ℕ) {r r' : List ℕ} → r ≡ take (get_or (numbers_of answer) 2 0) buffer
    → r' ≡ take (get_or (numbers_of answer) 2 0) buffer → r ≡ r'
output_of_one answer buffer p q = p ∙ sym q

pub rest_one : (input : List ℕ) (k : ℕ) {r r' : List ℕ} → r ≡ from k input → r' ≡ from k input → r ≡ r'
rest_one input k p q = p ∙ sym q

pub field_one : (input : List ℕ) (k : ℕ) {r r' : List ℕ} → r ≡ first_of (from k input) → r' ≡ first_of (from k input) → r ≡ r'
field_one input k p q = p ∙ sym q

pub number_one : (text : List ℕ) {r r' : ℕ} → r ≡ number_in 0 text → r' ≡ number_in 0 text → r ≡ r'
number_one text p q = p ∙ sym q

-- of a struct with a slice what the slice holds counts, not where it stands
pub groups_from_one : (input : List ℕ) (k size : ℕ) (r r' : Groups) → (r.left.now ≡ from k input) × (r.size ≡ size)
    → (r'.left.now ≡ from k input) × (r'.size ≡ size) → (r.left.now ≡ r'.left.now) × (r.size ≡ r'.size)
groups_from_one input k size r r' p q = (p.0 ∙ sym q.0, p.1 ∙ sym q.1)

pub next_one : (s : Groups) (given given' : Option (Bor (List ℕ))) (t t' : Groups) → GivesGroup s given t → GivesGroup s given' t'
    → (option_map (λ g. g.now) given ≡ option_map (λ g. g.now) given') × (t.left.now ≡ t'.left.now) × (t.size ≡ t'.size)
next_one s None None t t' p q = (refl, p.1.1 ∙ sym q.1.1, p.0 ∙ sym q.0)
next_one s None (Some g) t t' p q = absurd (q.1.0 p.1.0)
next_one s (Some g) None t t' p q = absurd (p.1.0 q.1.0)
next_one s (Some g) (Some g') t t' p q = (ap Some (p.1.1 ∙ sym q.1.1), p.1.2 ∙ sym q.1.2, p.0 ∙ sym q.0)
