-- Rounds of splitting by every letter: how one goes, and when they are over. Assumes nothing.
use Prim.Native.Nat.{ℕ, ◌+◌, ◌-◌, ◌≤◌, ◌<◌}
use mathlib.Core.Path.{◌≡◌, ◌∙◌}
use mathlib.Core.List.{List}
use native.Mathlib.Omega.{arith}
use lib.ListN.{length}
use Rattle.ground.specs.Bytes.{at}
use Rattle.mealy.specs.inner.Classes.{Coarse, Round}
use Rattle.mealy.proofs.Refining.{split_coarse, round_start, round_next, round_end}
use Rattle.machine.specs.inner.Index.{capacity}
use Rattle.machine.specs.inner.Words.{words, tabled, key}
use Rattle.machine.specs.inner.Refine.{Named, Crowded, Rounded, Refined, Begun, Crowd}
use Rattle.machine.proofs.Keys.{key_split}

pub record Going (letters : ℕ) (table : List ℕ) (k began : ℕ) (classes finer : List ℕ) (count a : ℕ) : Type 0 where
  pub begun : Begun (tabled letters table) k classes count
  pub spare : length finer ≡ capacity
  pub round : Round (tabled letters table) k began (at classes) count a

pub going_start : {letters : ℕ} {table : List ℕ} {k : ℕ} {classes finer : List ℕ} {began : ℕ}
    → Begun (tabled letters table) k classes began → length finer ≡ capacity
    → Going letters table k began classes finer began 0
going_start x f =
    record { begun = x; spare = f; round = round_start x.closed x.numbering x.coarse }

module _ {letters : ℕ} {table : List ℕ} {k began : ℕ} {classes finer : List ℕ} {count a : ℕ}
    (x : Going letters table k began classes finer count a) (more : a < letters) where
  bytes : (i : ℕ) → i < k → at classes i < 256
  bytes i h = omega (arith, x.begun.numbering.below i h, x.begun.few)

  -- one letter more
  pub going_next : {finer' : List ℕ} {r : ℕ} → Named k (key table classes a) finer' r → length finer' ≡ length finer
      → {classes' : List ℕ} → classes' ≡ finer'
      → Going letters table k began classes' finer' r (a + 1)
  going_next {finer'} y size copy =
      let split = key_split letters table classes k a x.begun.closed bytes (omega arith) more y.by_key in
      let coarse : Coarse (tabled letters table) k (at finer') = split_coarse x.begun.closed k a (omega arith) x.begun.coarse split in
      rw copy
      (record {
        begun =
            record {
              closed = x.begun.closed;
              fits = x.begun.fits;
              letters = x.begun.letters;
              few = y.few;
              room = size ∙ x.spare;
              numbering = y.numbering;
              coarse = coarse;
            };
        spare = size ∙ x.spare;
        round = round_next x.begun.closed x.round split y.numbering;
      })

  -- a 256th class
  pub going_crowd : Crowded k (key table classes a) → Crowd (tabled letters table) k
  going_crowd y =
      let split = key_split letters table classes y.p a x.begun.closed bytes y.le more y.by_key in
      record {
        p = y.p;
        class = y.class;
        le = y.le;
        numbering = y.numbering;
        coarse = split_coarse x.begun.closed y.p a y.le x.begun.coarse split;
      }

pub going_end : {letters : ℕ} {table : List ℕ} {k began : ℕ} {classes finer : List ℕ} {count a : ℕ}
    → Going letters table k began classes finer count a → a ≤ letters → letters ≤ a
    → Rounded (tabled letters table) k began classes count
going_end {letters} {a = a} x h l =
    let e : a ≡ letters = omega arith in
    record { few = x.begun.few; round = rw e at x.round }

-- rounds after rounds
pub record Refining (letters : ℕ) (table : List ℕ) (k : ℕ) (classes finer : List ℕ) (count : ℕ) : Type 0 where
  pub begun : Begun (tabled letters table) k classes count
  pub whole : length table ≡ words
  pub spare : length finer ≡ capacity

pub refining_start : {letters : ℕ} {table : List ℕ} {k : ℕ} {classes finer : List ℕ} {began : ℕ}
    → Begun (tabled letters table) k classes began → (length table ≡ words) × (length finer ≡ capacity)
    → Refining letters table k classes finer began
refining_start x f = record { begun = x; whole = f.0; spare = f.1 }

module _ {letters : ℕ} {table : List ℕ} {k : ℕ} {classes finer : List ℕ} {count : ℕ}
    (x : Refining letters table k classes finer count) {classes' : List ℕ} {r : ℕ}
    (y : Rounded (tabled letters table) k count classes' r) where
  -- a round that left the count as it was
  pub refining_end : r ≡ count → Refined (tabled letters table) k classes' r
  refining_end e = record { few = y.few; states = round_end x.begun.closed (rw (← e) at y.round) }

  pub refining_less : (r ≡ count → ⊥) → 256 - r < 256 - count
  refining_less unlike = omega (arith, y.few, y.round.grown, unlike)

  pub refining_next : length classes' ≡ length classes → {finer' : List ℕ} → length finer' ≡ length finer
      → Refining letters table k classes' finer' r
  refining_next size spare =
      record {
        begun =
            record {
              closed = x.begun.closed;
              fits = x.begun.fits;
              letters = x.begun.letters;
              few = y.few;
              room = size ∙ x.begun.room;
              numbering = y.round.numbering;
              coarse = y.round.coarse;
            };
        whole = x.whole;
        spare = spare ∙ x.spare;
      }
