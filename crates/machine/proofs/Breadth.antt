-- Exploring row after row. Assumes nothing.
use Prim.Native.Nat.{ℕ, ◌+◌, ◌≤◌, ◌<◌}
use mathlib.Core.Path.{◌≡◌, refl, sym, ◌∙◌, ap, ap₂}
use mathlib.Core.List.{List, [], ◌∷◌}
use native.Mathlib.Omega.{arith}
use Rattle.rule.specs.declared.situation.Situation.{Situation}
use Rattle.machine.specs.declared.step.Sides.{Sides}
use Rattle.rule.specs.Situation.{fresh}
use Rattle.machine.specs.inner.Sides.{upstream, target, ruled, answered}
use Rattle.mealy.specs.Runs.{Machine}
use Rattle.mealy.proofs.Runs.{untaken}
use Rattle.mealy.proofs.Exploring.{explore_start, explore_row}
use Rattle.machine.specs.declared.index.Index.{Index}
use Rattle.machine.specs.inner.Index.{Placed, known, added, PlaceOf}
use Rattle.machine.specs.inner.Words.{Slot, row}
use Rattle.machine.specs.inner.Explore.{situation_at, Output, Explored, meant, Notable, Noted, passed, barred, Onward, OnwardIf, Surveyed, Fresh}
use Rattle.machine.specs.inner.Stages.{Unused, Candidate}
use Rattle.std.specs.Prelude.{Option, Some, None, ⊤}
use Rattle.machine.proofs.Letters.{letter_output, answered_step}
use Rattle.machine.proofs.Exploration.{pair, output_byte, explored_refused, explored_stored}

pub record Rowing (m : Machine Situation ℕ) (began : ℕ) (x : Index) (table : List ℕ) (i a : ℕ) : Type 0 where
  pub explored : Explored m x table i a
  pub here : i < x.count
  pub grown : began ≤ x.count

pub rowing_start : {m : Machine Situation ℕ} {x : Index} {table : List ℕ} {i : ℕ} → Explored m x table i 0 → i < x.count
    → Rowing m x.count x table i 0
rowing_start y h = record { explored = y; here = h; grown = omega arith }

pub rowing_next : {m : Machine Situation ℕ} {began : ℕ} {x : Index} {table : List ℕ} {i a : ℕ} → Rowing m began x table i a → a < m.letters
    → {x' : Index} {table' : List ℕ} → Onward m x.count x' table' i (a + 1) → Rowing m began x' table' i (a + 1)
rowing_next w l y =
    record { explored = y.explored; here = omega (arith, w.here, y.grown); grown = omega (arith, w.grown, y.grown) }

pub rowing_end : {m : Machine Situation ℕ} {began : ℕ} {x : Index} {table : List ℕ} {i a : ℕ} → Rowing m began x table i a → a ≤ m.letters
    → m.letters ≤ a → Onward m began x table (i + 1) 0
rowing_end {m} {i = i} {a = a} w h l =
    let e : a ≡ m.letters = omega arith in
    let y = w.explored in
    record {
      grown = w.grown;
      explored =
          record {
            streams = y.streams;
            size = y.size;
            exploring = explore_row m (rw e at y.exploring) (omega (arith, w.here, y.size));
            linked = y.linked;
            situations = y.situations;
            whole = y.whole;
            narrow = y.narrow;
            outputs = y.outputs;
          };
    }

-- the fresh situation alone
pub fresh_placed : (x : Index) (s : Situation) → x.count ≡ 0 → s ≡ fresh → (x' : Index) (r : Option ℕ)
    → PlaceOf x s.need.packed s.low.packed x' r → Fresh x'
fresh_placed x s n f x' None y = absurd (omega (arith, y.full))
fresh_placed x s n f x' (Some q) y = first y
  where
    first : Placed x s.need.packed s.low.packed x' q → Fresh x'
    first (known h there same) = absurd (omega arith)
    first (added h absent pushed) =
        record {
          linked = pushed.linked;
          one = omega (arith, pushed.more);
          situation = ap (situation_at x'.pairs) (sym n) ∙ ap₂ pair pushed.new.0 pushed.new.1 ∙ f;
        }

pub explored_start : {m : Machine Situation ℕ} {x : Index} {table : List ℕ} → Fresh x → Unused table → fresh ≡ m.fresh → Explored m x table 0 0
explored_start {m} {table = table} y t e =
    record {
      streams = [] ∷ [];
      size = sym y.one;
      exploring = explore_start m (row table);
      linked = y.linked;
      situations = λ p l. let one : p ≡ 0 = omega (arith, y.one) in rw one (y.situation ∙ e);
      whole = t.whole;
      narrow = record { narrow = λ p. rw (t.blank.blank p) (omega arith) };
      outputs = λ p o j d. absurd (untaken (rw (t.blank.blank p) at d));
    }

pub candidate_slot : {s : Sides} {x : Index} {table : List ℕ} {i a : ℕ} → Candidate s x table i a
    → Slot table i a
candidate_slot c =
    record {
      whole = c.explored.whole;
      situation = omega (arith, c.here, c.explored.linked.fits);
      letter = omega (arith, c.letter, c.few.few_ups);
    }

-- the answer to a candidate, which a step from its situation gives
module _ {s : Sides} {x : Index} {table : List ℕ} {i a : ℕ} (c : Candidate s x table i a)
    {t : Situation} (here : t ≡ situation_at x.pairs i) where
  abbrev Gives : Option (ℕ × Situation) → Type 0
  Gives y = meant y ≡ answered s t a

  output : (o : ℕ) (next : Situation) → Gives (Some (o, next)) → Output o
  output o next e = letter_output s.shim.way (upstream s) (target s) t a o next c.few.few_fences (sym e)

  step : (y : Option (ℕ × Situation)) → Gives y → (ruled s).step (situation_at x.pairs i) a ≡ meant y
  step y e = answered_step s.shim.way (upstream s) (target s) c.letter here (sym e)

  pub notable : {y : Option (ℕ × Situation)} → Gives y → Notable y
  notable e = record { byte = λ o next f. output_byte o (output o next (sym (ap meant f) ∙ e)) }

  -- once it is noted, the next candidate's turn has come
  pub candidate_noted : {y : Option (ℕ × Situation)} → Gives y → {x' : Index} {table' : List ℕ} {r : Option ⊤} → Noted x table i a y x' table' r
      → OnwardIf (ruled s) x.count x' table' i (a + 1) r
  candidate_noted e (passed {o} {next} f z) =
      let given : Gives (Some (o, next)) = sym (ap meant f) ∙ e in
      explored_stored c.explored c.here c.letter (omega (arith, c.few.few_ups)) (step (Some (o, next)) given) (output o next given) _ _ _ z
  candidate_noted e (barred f same word done) =
      rw (same, word, done)
      (record {
        grown = omega arith;
        explored =
            explored_refused c.explored c.here c.letter (omega (arith, c.few.few_ups)) (step None (sym (ap meant f) ∙ e));
      })

-- every situation found has its row
pub explored_end : {m : Machine Situation ℕ} {x : Index} {table : List ℕ} {i : ℕ} → Explored m x table i 0 → x.count ≤ i
    → Surveyed m table x.count
explored_end {x = x} {i = i} y h =
    let e : i ≡ x.count = omega (arith, y.exploring.here, y.size) in
    record { index = x; all = refl; explored = rw e at y }
