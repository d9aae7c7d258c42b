-- What becomes of a machine is determined, since more than n and at most n exclude each other, and a description of the states is one: so is the
-- outcome, and every word of the rows. Assumes nothing.
use Rattle.std.proofs.Common.{Ok, Err}
use Prim.Native.Nat.{ℕ, ◌+◌, ◌*◌, ◌/◌, ◌%◌, ◌≤◌, ◌<◌}
use mathlib.Core.Path.{◌≡◌, refl, sym, ◌∙◌, ap}
use mathlib.Core.Logic.{◌⊎◌, inl, inr}
use mathlib.Core.List.{List}
use native.Mathlib.Omega.{arith}
use native.Mathlib.Decide.{dec_lt}
use borrow.Author.Tests.{ne_eqb}
use lib.Seq.{ext_get_or}
use Rattle.machine.specs.Outcome.{Outcome}
use Rattle.ground.specs.Bytes.{at}
use Rattle.answers.specs.declared.Refusal.{Refusal}
use Rattle.operations.specs.Alphabet.{letters_with, stride}
use Rattle.rule.specs.declared.situation.Situation.{Situation}
use Rattle.rule.specs.declared.way.Way.{Way}
use Rattle.mealy.specs.Runs.{Answer, taken, Machine as Mealy, Same}
use Rattle.mealy.specs.Arrivals.{More, Described}
use Rattle.mealy.proofs.Runs.{untaken}
use Rattle.mealy.proofs.Unique.{equal, same_states, not_more, described_at_most, exactly_unique, described_unique}
use Rattle.machine.specs.Rows.{decoded, answer_at}
use Rattle.machine.specs.Generated.{ProperWord, refusing, passing, Making, Unmade, crowded, overfull, roomless, Built}
use Rattle.machine.specs.declared.machine.Machine.{Machine}

passes : (targets w : ℕ) → targets ≤ 16 → (w / 256 < targets) ⊎ (w / 256 ≡ 255) → decoded w ≡ taken (w / 256) (w % 256)
passes targets w few (inl h) = rw (ne_eqb (w / 256) 254 (λ e. omega arith)) refl
passes targets w few (inr h) = rw (ne_eqb (w / 256) 254 (λ e. omega arith)) refl

-- of words that the rows may hold, two that say the same are one
same_word : (targets states v w : ℕ) → targets ≤ 16 → ProperWord targets states v → ProperWord targets states w → decoded v ≡ decoded w → v ≡ w
same_word targets states v w few (refusing p) (refusing q) e = p ∙ sym q
same_word targets states v w few (refusing p) (passing q n) e =
    absurd (untaken (sym (ap decoded p) ∙ e ∙ passes targets w few q))
same_word targets states v w few (passing p n) (refusing q) e =
    absurd (untaken (sym (ap decoded q) ∙ sym e ∙ passes targets v few p))
same_word targets states v w few (passing p n) (passing q o) e =
    let said : taken (v / 256) (v % 256) ≡ taken (w / 256) (w % 256) = sym (passes targets v few p) ∙ e ∙ passes targets w few q in
    let high : v / 256 ≡ w / 256 = cc in
    let low : v % 256 ≡ w % 256 = cc in
    omega arith

-- 255 states at most are not more than 255
pub too_few : (m : Mealy Situation ℕ) {k : ℕ} {row : ℕ → ℕ → Answer ℕ ℕ} → Described m (Same m) k row → k ≤ 255 → More m (Same m) 255 → ⊥
too_few m d low more =
    not_more m (Same m) (same_states m) 255 (described_at_most m (Same m) (same_states m) d 255 low) more

module _ (m : Mealy Situation ℕ) (way : Way) (ups targets : ℕ) (letters : m.letters ≡ letters_with ups) (few : targets ≤ 16) (rows : List ℕ) where
  module _ {x y : Machine} {rows₁ rows₂ : List ℕ} (b : Making m way ups targets rows x rows₁) (c : Making m way ups targets rows y rows₂) where
    one : (x.states ≡ y.states) × ((q a : ℕ) → q < x.states → a < m.letters → answer_at rows₁ q a ≡ answer_at rows₂ q a)
    one = described_unique m (Same m) (same_states m) b.states c.states

    word_one : (q a : ℕ) → q < x.states → a < stride → at rows₁ (q * stride + a) ≡ at rows₂ (q * stride + a)
    word_one q a h l = look (dec_lt a (letters_with ups))
      where
        look : Dec (a < letters_with ups) → at rows₁ (q * stride + a) ≡ at rows₂ (q * stride + a)
        look (yes k) =
            let other = c.words q a (rw one.0 at h) k in
            same_word targets x.states _ _ few (b.words q a h k) (rw (← one.0) at other) (one.1 q a h (rw letters k))
        look (no k) = b.absent q a h (omega arith) l ∙ sym (c.absent q a (rw one.0 at h) (omega arith) l)

    at_one : (p : ℕ) → at rows₁ p ≡ at rows₂ p
    at_one p = look (dec_lt p (x.states * stride))
      where
        look : Dec (p < x.states * stride) → at rows₁ p ≡ at rows₂ p
        look (yes h) =
            let split : p / stride * stride + p % stride ≡ p = omega arith in
            rw split at (word_one (p / stride) (p % stride) (omega arith) (omega arith))
        look (no h) = b.kept p (omega arith) ∙ sym (c.kept p (omega (arith, one.0)))

    rows_one : rows₁ ≡ rows₂
    rows_one = ext_get_or 0 rows₁ rows₂ (b.size ∙ sym c.size) (λ p h. at_one p)

    machine_one : x ≡ y
    machine_one =
        λ i.
        record {
          way = (b.way_number_is ∙ sym c.way_number_is) i;
          situations = exactly_unique m ◌≡◌ equal b.situations c.situations i;
          states = one.0 i;
          ups = (b.its_ups ∙ sym c.its_ups) i;
          targets = (b.its_targets ∙ sym c.its_targets) i;
        }

  -- a refusal excludes a machine, and each refusal the others
  not_both : {x : Machine} {why : Refusal} {rows₁ : List ℕ} → Making m way ups targets rows x rows₁ → Unmade m rows why → ⊥
  not_both b (crowded h) = not_more m ◌≡◌ equal 4096 b.few_situations h
  not_both b (overfull f h) = too_few m b.states b.few_states h
  not_both b (roomless f l d h) =
      omega (arith, (described_unique m (Same m) (same_states m) b.states d).0, b.room, h)

  unmade_one : {why other : Refusal} → Unmade m rows why → Unmade m rows other → why ≡ other
  unmade_one (crowded h) (crowded k) = refl
  unmade_one (crowded h) (overfull f k) = absurd (not_more m ◌≡◌ equal 4096 f h)
  unmade_one (crowded h) (roomless f l d k) = absurd (not_more m ◌≡◌ equal 4096 f h)
  unmade_one (overfull f h) (crowded k) = absurd (not_more m ◌≡◌ equal 4096 f k)
  unmade_one (overfull f h) (overfull e k) = refl
  unmade_one (overfull f h) (roomless e l d k) = absurd (too_few m d l h)
  unmade_one (roomless f l d h) (crowded k) = absurd (not_more m ◌≡◌ equal 4096 f k)
  unmade_one (roomless f l d h) (overfull e k) = absurd (too_few m d l k)
  unmade_one (roomless f l d h) (roomless e n c k) = refl

  -- so there is one outcome with its rows
  pub built_one : (r s : Outcome) {rows₁ rows₂ : List ℕ} → Built m way ups targets rows r rows₁ → Built m way ups targets rows s rows₂
      → (r ≡ s) × (rows₁ ≡ rows₂)
  built_one (Ok x) (Ok y) b c = (ap Ok (machine_one b c), rows_one b c)
  built_one (Ok x) (Err why) b c = absurd (not_both b c.0)
  built_one (Err why) (Ok y) b c = absurd (not_both c b.0)
  built_one (Err why) (Err other) b c = (ap Err (unmade_one b.0 c.0), b.1 ∙ sym c.1)
