-- From what exploring has found to the machine: the table describes the situations, the classes are states, and the rows written describe them.
-- Assumes nothing.
use Prim.Native.Nat.{ℕ, ◌+◌, ◌-◌, ◌*◌, ◌/◌, ◌%◌, ◌≤◌, ◌<◌}
use mathlib.Core.Path.{◌≡◌, refl, sym, ◌∙◌, ap}
use mathlib.Core.Logic.{◌⊎◌, inl, inr}
use mathlib.Core.List.{List}
use native.Mathlib.Omega.{arith}
use native.Mathlib.Decide.{dec_lt}
use borrow.Author.Tests.{lt-ltb, le-ltb, ne_eqb}
use lib.ListN.{length}
use Rattle.ground.specs.Bytes.{at}
use Rattle.operations.specs.Alphabet.{stride, letters_with}
use Rattle.rule.specs.declared.situation.Situation.{Situation}
use Rattle.rule.specs.Rule.{way_number}
use Rattle.mealy.specs.Runs.{taken, Machine, Same}
use Rattle.mealy.specs.Arrivals.{Entry, Described, More, AtMost, Exactly}
use Rattle.mealy.specs.inner.Exploring.{Exploring}
use Rattle.mealy.specs.inner.Classes.{Numbering, classed, States}
use Rattle.mealy.proofs.Unique.{equal, arrivals_at_most, arrivals_exactly}
use Rattle.mealy.proofs.Exploring.{explore_end}
use Rattle.mealy.proofs.Numbering.{numbering_one}
use Rattle.mealy.proofs.Describing.{numbered_step}
use Rattle.mealy.proofs.States.{rows_closed, classes_many, classes_states}
use Rattle.machine.specs.inner.Index.{capacity}
use Rattle.machine.specs.inner.Words.{answer, row, tabled}
use Rattle.machine.specs.Rows.{decoded}
use Rattle.machine.specs.inner.Writing.{state_word, state_entry, RowsWritten}
use Rattle.machine.specs.inner.Refine.{Begun, Crowd}
use Rattle.machine.specs.inner.Explore.{Explored, Surveyed, Output, Blank}
use Rattle.machine.specs.declared.step.Sides.{Sides}
use Rattle.machine.specs.inner.Sides.{upstream, target, ruled}
use Rattle.machine.specs.Generated.{ProperWord, refusing, passing, Making}
use Rattle.machine.specs.inner.Stages.{Sorted}
use Rattle.machine.proofs.Letters.{shim_step, letter_fence}
use Rattle.machine.proofs.Keys.{word_refused, word_taken}

end_described : {m : Machine Situation ℕ} (table : List ℕ) {streams : List (List ℕ)} {count : ℕ} → length streams ≡ count
    → Exploring m streams (row table) count 0 → Described m ◌≡◌ count (row table)
end_described {m} table e x = rw e at (explore_end m (rw (← e) at x))

module _ {m : Machine Situation ℕ} {table : List ℕ} {count : ℕ} (z : Surveyed m table count) where
  abbrev explored : Explored m z.index table count 0
  explored = z.explored

  size : length explored.streams ≡ count
  size = explored.size ∙ z.all

  pub found : Described m ◌≡◌ count (row table)
  found = end_described table size explored.exploring

  pub few_situations : AtMost m ◌≡◌ 4096
  few_situations = arrivals_at_most m ◌≡◌ equal found.first 4096 (omega (arith, found.count, explored.linked.fits, z.all))

  all_situations : Exactly m ◌≡◌ count
  all_situations = arrivals_exactly m ◌≡◌ equal found.first count found.count

  pub begun : {classes : List ℕ} → length classes ≡ capacity → Blank classes → m.letters ≤ stride → Begun (tabled m.letters table) count classes 1
  begun {classes} size blank le =
      record {
        closed = rows_closed m found;
        fits = omega (arith, explored.linked.fits, z.all);
        letters = le;
        few = omega arith;
        room = size;
        numbering = numbering_one (omega (arith, explored.exploring.some, size)) (λ i h. blank.blank i);
        coarse = λ i j h l s. blank.blank i ∙ sym (blank.blank j);
      }

  pub crowd_states : Crowd (tabled m.letters table) count → More m (Same m) 255
  crowd_states c = classes_many m found c.le c.numbering c.coarse 255 (omega arith)

not_refusing : (o : ℕ) → Output o → o ≡ 254 → ⊥
not_refusing o (inl h) e = omega arith
not_refusing o (inr h) e = omega arith

-- the word of a state says what the table's word says, with classes for targets
module _ (classes : List ℕ) (v : ℕ) (output : (o j : ℕ) → answer v ≡ taken o j → Output o)
    (byte : (o j : ℕ) → answer v ≡ taken o j → at classes j < 256) where
  word_parts : 4096 ≤ v → (state_word classes v / 256 ≡ v / 4096 - 1) × (state_word classes v % 256 ≡ at classes (v % 4096))
  word_parts r =
      let e : state_word classes v ≡ (v / 4096 - 1) * 256 + at classes (v % 4096) = rw (le-ltb v 4096 r) in
      let c : at classes (v % 4096) < 256 = byte _ _ (word_taken v r) in
      (omega (arith, e), omega (arith, e))

  state_decoded : decoded (state_word classes v) ≡ classed (at classes) (answer v)
  state_decoded = look (dec_lt v 4096)
    where
      look : Dec (v < 4096) → decoded (state_word classes v) ≡ classed (at classes) (answer v)
      look (yes h) = rw (word_refused v h) (rw (lt-ltb v 4096 h) refl)
      look (no h) =
          let r : 4096 ≤ v = omega arith in
          let p = word_parts r in
          let n : v / 4096 - 1 ≡ 254 → ⊥ = not_refusing _ (output _ _ (word_taken v r)) in
          rw (word_taken v r, p.0, p.1, ne_eqb (v / 4096 - 1) 254 n) refl

  state_proper : (targets states : ℕ) → ((o j : ℕ) → answer v ≡ taken o j → (o < targets) ⊎ (o ≡ 255))
      → ((o j : ℕ) → answer v ≡ taken o j → at classes j < states) → ProperWord targets states (state_word classes v)
  state_proper targets states fence next = look (dec_lt v 4096)
    where
      look : Dec (v < 4096) → ProperWord targets states (state_word classes v)
      look (yes h) = refusing (rw (lt-ltb v 4096 h) refl)
      look (no h) =
          let r : 4096 ≤ v = omega arith in
          let p = word_parts r in
          passing (rw p.0 (fence _ _ (word_taken v r))) (rw p.1 (next _ _ (word_taken v r)))

-- the states, of a shim with its fences
module _ {s : Sides} {table classes : List ℕ} {count n : ℕ} (z : Sorted s table classes count n) where
  abbrev m : Machine Situation ℕ
  m = ruled s

  abbrev letters : ℕ
  letters = letters_with (length s.ups.now)

  abbrev x : Surveyed m table count
  x = z.searched.surveyed

  abbrev y : States (tabled letters table) count (at classes) n
  y = z.states_found

  -- the first situation of class q, and the table's word there
  abbrev first : ℕ → ℕ
  first q = y.numbering.firsts q

  abbrev word : ℕ → ℕ → ℕ
  word q a = at table (first q * stride + a)

  module _ (q a : ℕ) (h : q < n) (l : a < letters) where
    below : (o j : ℕ) → answer (word q a) ≡ taken o j → at classes j < n
    below o j e =
        y.numbering.below j
        ((rows_closed m (found x)).stays (first q) a o j (y.numbering.first q h).0 (numbered_step letters (row table) (first q) a l ∙ e))

    byte : (o j : ℕ) → answer (word q a) ≡ taken o j → at classes j < 256
    byte o j e = omega (arith, below o j e, z.few_states)

    word_decoded : decoded (state_word classes (word q a)) ≡ classed (at classes) (row table (first q) a)
    word_decoded = state_decoded classes (word q a) (x.explored.outputs (first q * stride + a)) byte

    fence : (o j : ℕ) → answer (word q a) ≡ taken o j → (o < length s.fences.now) ⊎ (o ≡ 255)
    fence o j e =
        let entry = (found x).rows (first q) a (y.numbering.first q h).0 l in
        let got : Entry m ◌≡◌ (found x).streams (first q) a (taken o j) = rw e at entry in
        letter_fence s.shim.way (upstream s) (target s) _ a o got.0
        (sym (shim_step s.shim.way (upstream s) (target s) _ a l) ∙ got.1)

    word_proper : ProperWord (length s.fences.now) n (state_word classes (word q a))
    word_proper =
        let outputs = x.explored.outputs (first q * stride + a) in state_proper classes (word q a) outputs byte (length s.fences.now) n fence below

  -- the states, where there is no room for their rows
  pub described : Described m (Same m) n (λ q a. classed (at classes) (row table (first q) a))
  described = classes_states m (found x) y (λ q a h l. refl)

  -- the machine, where its rows have been written
  pub making : {rows rows' : List ℕ} → ((v : Numbering count (at classes) n)
      → RowsWritten rows n (λ q. state_entry table classes letters (v.firsts q)) rows') → n * stride ≤ length rows
      → {number : ℕ} → number ≡ way_number s.shim.way
      → Making m s.shim.way (length s.ups.now) (length s.fences.now) rows
      (record { way = number; situations = count; states = n; ups = length s.ups.now; targets = length s.fences.now }) rows'
  making {rows} {rows'} write room e =
      record {
        way_number_is = e;
        its_ups = refl;
        its_targets = refl;
        few_situations = few_situations x;
        situations = all_situations x;
        few_states = z.few_states;
        states =
            classes_states m (found x) y
            (λ q a h l. ap decoded (entry q a h l) ∙ word_decoded q a h l);
        size = done.size;
        room = room;
        words = λ q a h l. rw (entry q a h l) (word_proper q a h l);
        absent = λ q a h l r. done.words q a h r ∙ rw (le-ltb a letters l);
        kept = done.kept;
      }
    where
      done : RowsWritten rows n (λ q. state_entry table classes letters (first q)) rows'
      done = write y.numbering

      entry : (q a : ℕ) → q < n → a < letters → at rows' (q * stride + a) ≡ state_word classes (word q a)
      entry q a h l = done.words q a h (omega (arith, z.searched.few.few_ups)) ∙ rw (lt-ltb a letters l)
