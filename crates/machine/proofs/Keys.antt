-- A key is a class with what a letter shows of it. Assumes nothing.
use Prim.Native.Nat.{ℕ, ◌+◌, ◌-◌, ◌*◌, ◌/◌, ◌%◌, ◌≤◌, ◌<◌}
use mathlib.Core.Path.{◌≡◌, refl, sym, ◌∙◌, ap₂}
use mathlib.Core.Logic.{◌↔◌}
use mathlib.Core.List.{List}
use native.Mathlib.Omega.{arith}
use native.Mathlib.Decide.{dec_lt}
use borrow.Author.Tests.{lt-ltb, le-ltb}
use Rattle.ground.specs.Bytes.{at}
use Rattle.operations.specs.Alphabet.{stride}
use Rattle.mealy.specs.Runs.{refused, taken}
use Rattle.mealy.specs.inner.Classes.{Closed, classed, Split}
use Rattle.mealy.proofs.Runs.{untaken}
use Rattle.mealy.proofs.Describing.{numbered_step}
use Rattle.machine.specs.inner.Words.{answer, row, tabled, seen, key}
use Rattle.machine.specs.inner.Refine.{ByKey}

pub word_refused : (w : ℕ) → w < 4096 → answer w ≡ refused
word_refused w h = rw (lt-ltb w 4096 h)

pub word_taken : (w : ℕ) → 4096 ≤ w → answer w ≡ taken (w / 4096 - 1) (w % 4096)
word_taken w h = rw (le-ltb w 4096 h)

module _ (classes : List ℕ) where
  -- the class of a word's target is a byte
  abbrev Small : ℕ → Type 0
  Small w = (o j : ℕ) → answer w ≡ taken o j → at classes j < 256

  nothing_seen : (w : ℕ) → w < 4096 → seen classes w ≡ 0
  nothing_seen w h = rw (lt-ltb w 4096 h)

  target_seen : (w : ℕ) → 4096 ≤ w → seen classes w ≡ w / 4096 * 256 + at classes (w % 4096)
  target_seen w h = rw (le-ltb w 4096 h)

  -- words show the same exactly where their answers are the same, by classes
  seen_classed : (w v : ℕ) → Small w → Small v
      → (seen classes w ≡ seen classes v) ↔ (classed (at classes) (answer w) ≡ classed (at classes) (answer v))
  seen_classed w v small tiny = look (dec_lt w 4096) (dec_lt v 4096)
    where
      look : Dec (w < 4096) → Dec (v < 4096)
          → (seen classes w ≡ seen classes v) ↔ (classed (at classes) (answer w) ≡ classed (at classes) (answer v))
      look (yes h) (yes l) = rw (word_refused w h, word_refused v l, nothing_seen w h, nothing_seen v l) (λ e. refl, λ e. refl)
      look (yes h) (no l) =
          let r : 4096 ≤ v = omega arith in
          rw (word_refused w h, word_taken v r, nothing_seen w h, target_seen v r)
          (λ (e : 0 ≡ v / 4096 * 256 + at classes (v % 4096)). absurd (omega arith), λ e. absurd (untaken e))
      look (no h) (yes l) =
          let r : 4096 ≤ w = omega arith in
          rw (word_taken w r, word_refused v l, target_seen w r, nothing_seen v l)
          (λ (e : w / 4096 * 256 + at classes (w % 4096) ≡ 0). absurd (omega arith), λ e. absurd (untaken (sym e)))
      look (no h) (no l) =
          let r : 4096 ≤ w = omega arith in
          let q : 4096 ≤ v = omega arith in
          let s : at classes (w % 4096) < 256 = small _ _ (word_taken w r) in
          let t : at classes (v % 4096) < 256 = tiny _ _ (word_taken v q) in
          rw (word_taken w r, word_taken v q, target_seen w r, target_seen v q) (
            λ (e : w / 4096 * 256 + at classes (w % 4096) ≡ v / 4096 * 256 + at classes (v % 4096)).
                ap₂ taken (omega arith) (omega arith),
            λ (e : taken (w / 4096 - 1) (at classes (w % 4096)) ≡ taken (v / 4096 - 1) (at classes (v % 4096))).
                let f : w / 4096 - 1 ≡ v / 4096 - 1 = cc in
                let g : at classes (w % 4096) ≡ at classes (v % 4096) = cc in
                omega (arith, f, g, r, q),
          )

-- numbering by keys splits classes, which are bytes, by what the letter shows
pub key_split : (letters : ℕ) (table classes : List ℕ) {k : ℕ} (p a : ℕ) {finer : ℕ → ℕ} → Closed (tabled letters table) k
    → ((i : ℕ) → i < k → at classes i < 256) → p ≤ k → a < letters → ByKey p (key table classes a) finer
    → Split (tabled letters table) p (at classes) a finer
key_split letters table classes {k} p a {finer} closed bytes le h by_key i j l r =
    rw (step i, step j) (
      λ (e : finer i ≡ finer j).
          let f : key table classes a i ≡ key table classes a j = (by_key i j l r).0 e in (
            omega (arith, f, bytes i (omega arith), bytes j (omega arith)),
            shows.0 (omega (arith, f, bytes i (omega arith), bytes j (omega arith))),
          ),
      λ (e : (at classes i ≡ at classes j) × (classed (at classes) (answer (word i)) ≡ classed (at classes) (answer (word j)))).
          (by_key i j l r).1 (ap₂ (λ (x y : ℕ). x + 256 * y) e.0 (shows.1 e.1)),
    )
  where
    word : ℕ → ℕ
    word n = at table (n * stride + a)

    step : (n : ℕ) → (tabled letters table).step n a ≡ answer (word n)
    step n = numbered_step letters (row table) n a h

    small : (n : ℕ) → n < p → (o t : ℕ) → answer (word n) ≡ taken o t → at classes t < 256
    small n q o t e = bytes t (closed.stays n a o t (omega arith) (step n ∙ e))

    shows : (seen classes (word i) ≡ seen classes (word j)) ↔ (classed (at classes) (answer (word i)) ≡ classed (at classes) (answer (word j)))
    shows = seen_classed classes (word i) (word j) (small i l) (small j r)
