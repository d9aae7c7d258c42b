-- What an input's parts are listed as is determined: the stages exclude each other, and so are the rows of a machine. Assumes nothing.
use Rattle.std.proofs.Common.{Some}
use Prim.Native.Nat.{ℕ, ◌<◌}
use mathlib.Core.Path.{◌≡◌, refl, sym, ap, subst, ◌∙◌}
use mathlib.Core.List.{List, ◌++◌}
use Rattle.ground.proofs.Truths.{differ}
use Rattle.ground.specs.Bytes.{bytes}
use Rattle.answers.specs.Given.{Given, gives, refuses}
use Rattle.rule.specs.declared.situation.Situation.{Situation}
use Rattle.shims.specs.declared.Models.{Models}
use Rattle.shims.specs.Opening.{opened_by}
use Rattle.shims.proofs.Calls.{given_one}
use Rattle.operations.specs.Operation.{fence_bytes}
use Rattle.printing.proofs.Turns.{in_turn_same}
use Rattle.runs.specs.Bytes.{puts}
use Rattle.mealy.specs.Runs.{Answer as Entry, Machine, Same}
use Rattle.mealy.specs.Arrivals.{Described}
use Rattle.mealy.proofs.Unique.{equal, same_states, not_more, described_at_most, described_unique}
use Rattle.listed.specs.Printed.{names_line, number_line, step_line, state_lines, row_lines, out_line, Listing}
use Rattle.listed.specs.Parts.{rule_of, listing_of, listed_text, MachineListed, crowded, overfull, made, ModelsListed, halts, runs}
use Rattle.listed.specs.Parts.{Parts, PartsListed}

-- rows that agree where there are states and letters print the same lines
rows_same : (row wor : ℕ → ℕ → Entry ℕ ℕ) (letters k : ℕ) → ((i a : ℕ) → i < k → a < letters → row i a ≡ wor i a)
    → row_lines row letters k ≡ row_lines wor letters k
rows_same row wor letters k h =
    in_turn_same (λ (s : ℕ). state_lines s (row s) letters) (λ (s : ℕ). state_lines s (wor s) letters) k
    (λ s l. in_turn_same (λ (a : ℕ). step_line s a (row s a)) (λ (a : ℕ). step_line s a (wor s a)) letters (λ a m. ap (step_line s a) (h s a l m)))

module _ (m : Models) (output : List ℕ) where
  abbrev rule : Machine Situation ℕ
  rule = rule_of m

  one_text : {k l : ℕ} {row wor : ℕ → ℕ → Entry ℕ ℕ} → Described rule (Same rule) k row → Described rule (Same rule) l wor
      → listed_text m output k row ≡ listed_text m output l wor
  one_text {k} {l} {row} {wor} d e =
      let u = described_unique rule (Same rule) (same_states rule) d e in
      ap around (rows_same row wor rule.letters k u.1) ∙ ap (λ (n : ℕ). listed_text m output n wor) u.0
    where
      around : List ℕ → List ℕ
      around x =
          let t : Listing = listing_of m k rule.letters row output (fence_bytes output) in
          names_line t.upstream t.target t.way
          ++ (number_line (bytes "states ") k ++ (x ++ (out_line output ++ number_line (bytes "fences ") (fence_bytes output))))

  machine_one : {g h : Given} → MachineListed m output g → MachineListed m output h → g ≡ h
  machine_one (crowded a) (crowded b) = refl
  machine_one (crowded a) (overfull f b) = absurd (not_more rule ◌≡◌ equal 4096 f a)
  machine_one (crowded a) (made f l d) = absurd (not_more rule ◌≡◌ equal 4096 f a)
  machine_one (overfull f a) (crowded b) = absurd (not_more rule ◌≡◌ equal 4096 f b)
  machine_one (overfull f a) (overfull e b) = refl
  machine_one (overfull f a) (made e l d) =
      absurd (not_more rule (Same rule) (same_states rule) 255 (described_at_most rule (Same rule) (same_states rule) d 255 l) a)
  machine_one (made f l d) (crowded b) = absurd (not_more rule ◌≡◌ equal 4096 f b)
  machine_one (made f l d) (overfull e b) =
      absurd (not_more rule (Same rule) (same_states rule) 255 (described_at_most rule (Same rule) (same_states rule) d 255 l) b)
  machine_one (made f l d) (made e k c) = ap (λ (t : List ℕ). gives t (fence_bytes output) 0) (one_text d c)

models_one : (m : Models) (stream : List ℕ) (g h : Given) → ModelsListed m stream g → ModelsListed m stream h → g ≡ h
models_one m stream g h (halts {why = a} e) (halts {why = b} f) = sym e ∙ f
models_one m stream g h (halts {why = a} e) (runs {output = b} f n) =
    let z : refuses a ≡ puts b = sym e ∙ f in
    differ (cc)
models_one m stream g h (runs {output = a} e n) (halts {why = b} f) =
    let z : puts a ≡ refuses b = sym e ∙ f in
    differ (cc)
models_one m stream g h (runs {output = a} e x) (runs {output = b} f y) =
    let z : puts a ≡ puts b = sym e ∙ f in
    let w : b ≡ a = cc in
    machine_one m a x (subst (λ (o : List ℕ). MachineListed m o h) w y)

pub parts_one : (p : Parts) {g h : Given} → PartsListed p g → PartsListed p h → g ≡ h
parts_one p {g} {h} a b =
    given_one (opened_by (Some p.way) p.upstream p.target) (λ (m : Models). ModelsListed m p.stream)
    (λ m g h. models_one m p.stream g h) g h a b
