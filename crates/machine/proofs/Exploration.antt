-- Exploring with an index of the situations and a table of their words. Assumes nothing.
use Prim.Native.Nat.{ℕ, ◌+◌, ◌*◌, ◌≤◌, ◌<◌}
use mathlib.Core.Path.{◌≡◌, refl, sym, ◌∙◌, ap, ap₂}
use mathlib.Core.Logic.{inl, inr, ⊎_elim}
use mathlib.Core.List.{List, [], ◌∷◌, ◌++◌}
use native.Mathlib.Omega.{arith}
use native.Mathlib.Decide.{ℕ_discrete}
use lib.ListN.{length, get_or, set, length-set, length-append, get_or-append}
use lib.Seq.{get_or-set_same, get_or-set_other, get_or-append_seam}
use Rattle.ground.specs.Bytes.{at}
use Rattle.operations.specs.Alphabet.{stride}
use Rattle.rule.specs.declared.situation.Situation.{Situation}
use Rattle.mealy.specs.Runs.{Answer, refused, taken, Machine, reached}
use Rattle.mealy.specs.Order.{◌▹◌}
use Rattle.mealy.specs.Arrivals.{arrival}
use Rattle.mealy.specs.inner.Exploring.{Before}
use Rattle.mealy.proofs.Runs.{untaken, ends_on}
use Rattle.mealy.proofs.Numbers.{split_last}
use Rattle.mealy.proofs.Exploring.{ahead, explore_known, explore_new, explore_beyond}
use Rattle.machine.specs.declared.index.Index.{Index}
use Rattle.machine.specs.inner.Index.{capacity, Pair, Absent, Pushed, known, added}
use Rattle.machine.specs.inner.Words.{answer, row}
use Rattle.machine.specs.inner.Writing.{Narrow}
use Rattle.std.specs.Prelude.{Option, Some, None, ⊤}
use Rattle.machine.specs.inner.Explore.{situation_at, Output, Explored, PlacedAt, Notable, StoredIf, Onward, OnwardIf}
use Rattle.machine.proofs.Keys.{word_taken}

-- the word of an answer
encoded : (o q w : ℕ) → q < capacity → w ≡ (o + 1) * 4096 + q → answer w ≡ taken o q
encoded o q w h e = word_taken w (omega arith) ∙ ap₂ taken (omega arith) (omega arith)

pub output_byte : (o : ℕ) → Output o → o < 256
output_byte o (inl h) = omega arith
output_byte o (inr h) = omega arith

pub notable_byte : {y : Option (ℕ × Situation)} {o : ℕ} {next : Situation} → Notable y → y ≡ Some (o, next) → o < 256
notable_byte {o = o} {next = next} x e = x.byte o next e

-- a table with one word more
module _ (table : List ℕ) (i a w : ℕ) (fits : i * stride + a < length table) where
  abbrev table' : List ℕ
  table' = set table (i * stride + a) w

  row_kept : {n : ℕ} → n ≤ stride → a < n → (j b : ℕ) → Before j b i a → b < n → row table' j b ≡ row table j b
  row_kept le h j b before l = ap answer (get_or-set_other table (i * stride + a) (j * stride + b) w 0 (off before))
    where
      off : Before j b i a → j * stride + b ≡ i * stride + a → ⊥
      off (inl q) e = omega arith
      off (inr q) e = omega arith

  row_new : row table' i a ≡ answer w
  row_new = ap answer (get_or-set_same table (i * stride + a) w 0 fits)

  set_narrow : Narrow table → w < 1052672 → Narrow table'
  set_narrow x h =
      record {
        narrow = λ p.
            elim (ℕ_discrete p (i * stride + a)) [
              | yes e ↦ rw (e, get_or-set_same table (i * stride + a) w 0 fits) h
              | no e ↦ rw (get_or-set_other table (i * stride + a) p w 0 e) (x.narrow p)
            ];
      }

  set_outputs : ((p o j : ℕ) → answer (at table p) ≡ taken o j → Output o) → ((o j : ℕ) → answer w ≡ taken o j → Output o)
      → (p o j : ℕ) → answer (at table' p) ≡ taken o j → Output o
  set_outputs old new p o j e =
      elim (ℕ_discrete p (i * stride + a)) [
        | yes d ↦ new o j (sym (ap (λ (k : ℕ). answer (at table' k)) d ∙ row_new) ∙ e)
        | no d ↦ old p o j (sym (ap answer (get_or-set_other table (i * stride + a) p w 0 d)) ∙ e)
      ]

-- a situation is its two numbers
abbrev pub pair : ℕ → ℕ → Situation
pair n l = record { need = record { packed = n }; low = record { packed = l } }

pair_situation : (pairs : List (ℕ × ℕ)) (t : Situation) (p : ℕ) → Pair pairs t.need.packed t.low.packed p → situation_at pairs p ≡ t
pair_situation pairs t p h = ap₂ pair h.0 h.1

situation_pair : (pairs : List (ℕ × ℕ)) (t : Situation) (p : ℕ) → situation_at pairs p ≡ t → Pair pairs t.need.packed t.low.packed p
situation_pair pairs t p e = (ap (λ (s : Situation). s.need.packed) e, ap (λ (s : Situation). s.low.packed) e)

module _ {m : Machine Situation ℕ} {ix : Index} {table : List ℕ} {i a : ℕ} (x : Explored m ix table i a) (here : i < ix.count)
    (letter : a < m.letters) (le : m.letters ≤ stride) where
  fits : i * stride + a < length table
  fits = omega (arith, x.linked.fits, x.whole)

  found : i < length x.streams
  found = omega (arith, x.size)

  step_here : {y : Answer ℕ Situation} → m.step (situation_at ix.pairs i) a ≡ y → m.step (arrival m x.streams i) a ≡ y
  step_here e = ap (λ (s : Situation). m.step s a) (sym (x.situations i here)) ∙ e

  pub explored_refused : m.step (situation_at ix.pairs i) a ≡ refused → Explored m ix (set table (i * stride + a) 0) i (a + 1)
  explored_refused e =
      record {
        streams = x.streams;
        size = x.size;
        exploring =
            explore_known m x.exploring (row (set table (i * stride + a) 0)) (row_kept table i a 0 fits le letter)
            (rw (row_new table i a 0 fits) (step_here e));
        linked = x.linked;
        situations = x.situations;
        whole = simp length-set x.whole;
        narrow = set_narrow table i a 0 fits x.narrow (omega arith);
        outputs = set_outputs table i a 0 fits x.outputs (λ o j q. absurd (untaken q));
      }

  module _ {o : ℕ} {t : Situation} (taking : m.step (situation_at ix.pairs i) a ≡ taken o t) (output : Output o) where
    -- the word of an answer that leads to place q
    module _ {q w : ℕ} (low : q < capacity) (word : w ≡ (o + 1) * 4096 + q) where
      row_word_lem : row (set table (i * stride + a) w) i a ≡ taken o q
      row_word_lem = row_new table i a w fits ∙ encoded o q w low word

      word_narrow : Narrow (set table (i * stride + a) w)
      word_narrow = set_narrow table i a w fits x.narrow (omega (arith, output_byte o output))

      word_outputs : (p u j : ℕ) → answer (at (set table (i * stride + a) w) p) ≡ taken u j → Output u
      word_outputs =
          set_outputs table i a w fits x.outputs
          (λ u j e. let same : taken o q ≡ taken u j = sym (encoded o q w low word) ∙ e in let out : o ≡ u = cc in rw out at output)

    known_place : (q w : ℕ) → w ≡ (o + 1) * 4096 + q → q < ix.count → Pair ix.pairs t.need.packed t.low.packed q
        → Explored m ix (set table (i * stride + a) w) i (a + 1)
    known_place q w word h there =
        let low : q < capacity = omega (arith, x.linked.fits) in
        let leads : t ≡ arrival m x.streams q = sym (pair_situation ix.pairs t q there) ∙ x.situations q h in
        record {
          streams = x.streams;
          size = x.size;
          exploring =
              explore_known m x.exploring (row (set table (i * stride + a) w)) (row_kept table i a w fits le letter)
              (rw (row_word_lem low word) (
                step_here taking ∙ ap (taken o) leads,
                omega (arith, x.size),
                inr (ahead m x.exploring found q (omega (arith, x.size))),
              ));
          linked = x.linked;
          situations = x.situations;
          whole = simp length-set x.whole;
          narrow = word_narrow low word;
          outputs = word_outputs low word;
        }

    -- an absent pair has not been found
    unseen : Absent ix t.need.packed t.low.packed → (p : ℕ) → p < length x.streams → arrival m x.streams p ≡ t → ⊥
    unseen absent p h e =
        let l : p < ix.count = omega (arith, x.size) in
        absent p l (situation_pair ix.pairs t p (x.situations p l ∙ e))

    new_place : (w : ℕ) → w ≡ (o + 1) * 4096 + ix.count → Absent ix t.need.packed t.low.packed → {ix' : Index}
        → Pushed ix t.need.packed t.low.packed ix' → Explored m ix' (set table (i * stride + a) w) i (a + 1)
    new_place w word absent {ix'} pushed =
        let low : ix.count < capacity = omega (arith, pushed.more, pushed.linked.fits) in
        record {
          streams = streams';
          size = simp length-append (omega (arith, x.size, pushed.more));
          exploring =
              explore_new m x.exploring found (row (set table (i * stride + a) w)) (row_kept table i a w fits le letter) o t (step_here taking)
              (unseen absent)
              (row_word_lem low word ∙ ap (taken o) (sym x.size));
          linked = pushed.linked;
          situations = λ p h.
              ⊎_elim (λ (l : p < ix.count). old p l) (λ (e : p ≡ ix.count). rw e new) (split_last p ix.count (rw pushed.more at h));
          whole = simp length-set x.whole;
          narrow = word_narrow low word;
          outputs = word_outputs low word;
        }
      where
        v : List ℕ
        v = get_or x.streams i [] ▹ a

        streams' : List (List ℕ)
        streams' = x.streams ++ (v ∷ [])

        old : (p : ℕ) → p < ix.count → situation_at ix'.pairs p ≡ arrival m streams' p
        old p l =
            let o = pushed.old p l in
            ap₂ pair o.0 o.1
            ∙ x.situations p l
            ∙ ap (reached m) (sym (get_or-append x.streams (v ∷ []) [] p (omega (arith, x.size))))

        new : situation_at ix'.pairs ix.count ≡ arrival m streams' ix.count
        new =
            pair_situation ix'.pairs t ix.count pushed.new
            ∙ sym (ends_on m m.fresh (get_or x.streams i []) (x.exploring.accepted i found) (step_here taking))
            ∙ ap (reached m) (sym (get_or-append_seam x.streams v [] []))
            ∙ ap (arrival m streams') x.size

    -- the pair of the next situation is placed
    explored_taken : {ix' : Index} {q : ℕ} → PlacedAt ix t ix' q → Onward m ix.count ix' (set table (i * stride + a) ((o + 1) * 4096 + q)) i (a + 1)
    explored_taken {q = q} (known h there same) =
        rw same (record { grown = omega arith; explored = known_place q _ refl h there })
    explored_taken {q = q} (added h absent pushed) =
        record { grown = omega (arith, pushed.more); explored = new_place _ (omega arith) absent pushed }

    -- and its word stored; or there is no room for it
    pub explored_stored : (ix' : Index) (table' : List ℕ) (r : Option ⊤)
        → StoredIf ix table i a o t ix' table' r → OnwardIf m ix.count ix' table' i (a + 1) r
    explored_stored ix' table' (Some _) y = rw y.word (explored_taken y.placed)
    explored_stored ix' table' None y =
        explore_beyond m x.exploring found o t (step_here taking) (unseen y.absent) capacity (omega (arith, y.full, x.size))
