-- Numbering things by their keys, in the order of first occurrence: the keys seen so far are the pairs of an index, with 0 for the second number.
-- Assumes nothing.
use Prim.Native.Nat.{ℕ, ◌+◌, ◌≤◌, ◌<◌, max}
use mathlib.Core.Path.{◌≡◌, refl, sym, ◌∙◌, ap}
use mathlib.Core.Logic.{◌⊎◌, inl, inr, ⊎_elim, ◌↔◌}
use mathlib.Core.List.{List}
use native.Mathlib.Omega.{arith}
use lib.ListN.{length, set, length-set}
use lib.Seq.{get_or-set_same, get_or-set_other}
use Rattle.ground.specs.Bytes.{at}
use Rattle.mealy.specs.inner.Classes.{Numbering}
use Rattle.mealy.proofs.Numbers.{split_last}
use Rattle.mealy.proofs.Numbering.{numbering_none, numbering_known, numbering_new}
use Rattle.machine.specs.declared.index.Index.{Index}
use Rattle.machine.specs.inner.Index.{capacity, need_at, Linked, Pair, Absent, Pushed, Placed, known, added}
use Rattle.machine.specs.inner.Refine.{ByKey, Named, Crowded}

-- the first i things are numbered
pub record Naming (key : ℕ → ℕ) (classes : List ℕ) (ix : Index) (i : ℕ) : Type 0 where
  pub linked : Linked ix
  pub room : length classes ≡ capacity
  pub numbering : Numbering i (at classes) ix.count
  pub names : (j : ℕ) → j < i → Pair ix.pairs (key j) 0 (at classes j)
  pub by_key : ByKey i key (at classes)

naming_start : {ix : Index} (key : ℕ → ℕ) (classes : List ℕ) → length classes ≡ capacity → Linked ix × (ix.count ≡ 0)
    → Naming key classes ix 0
naming_start key classes r y =
    record {
      linked = y.0;
      room = r;
      numbering = rw y.1 (numbering_none (at classes));
      names = λ j h. absurd (omega arith);
      by_key = λ j l h. absurd (omega arith);
    }

module _ {key : ℕ → ℕ} {classes : List ℕ} {ix : Index} {i : ℕ} (x : Naming key classes ix i) (more : i < capacity) (q : ℕ) where
  abbrev classes' : List ℕ
  classes' = set classes i q

  kept : (j : ℕ) → j < i → at classes' j ≡ at classes j
  kept j h = get_or-set_other classes i j q 0 (omega arith)

  here : at classes' i ≡ q
  here = get_or-set_same classes i q 0 (omega (arith, x.room))

  -- things below i and i itself have one class exactly where they have one key, where that holds of i and each below it
  by_key_on : ((j : ℕ) → j < i → (at classes j ≡ q) ↔ (key j ≡ key i)) → ByKey (i + 1) key (at classes')
  by_key_on last j l h k = look (split_last j i h) (split_last l i k)
    where
      look : (j < i) ⊎ (j ≡ i) → (l < i) ⊎ (l ≡ i) → (at classes' j ≡ at classes' l) ↔ (key j ≡ key l)
      look (inl h) (inl k) = rw (kept j h, kept l k) (x.by_key j l h k)
      look (inl h) (inr e) = rw (e, here, kept j h) (last j h)
      look (inr e) (inl k) =
          rw (e, here, kept l k) (λ (d : q ≡ at classes l). sym ((last l k).0 (sym d)), λ (d : key i ≡ key l). sym ((last l k).1 (sym d)))
      look (inr e) (inr f) = rw (e, f) (λ d. refl, λ d. refl)

  naming_known : q < ix.count → Pair ix.pairs (key i) 0 q → Naming key classes' ix (i + 1)
  naming_known h there =
      record {
        linked = x.linked;
        room = simp length-set x.room;
        numbering = numbering_known x.numbering kept (rw here h);
        names = λ j l. ⊎_elim (λ (r : j < i). rw (kept j r) (x.names j r)) (λ (e : j ≡ i). rw (e, here) there) (split_last j i l);
        by_key = by_key_on (λ j l. (λ e. to j l e, λ e. back j l e));
      }
    where
      to : (j : ℕ) → j < i → at classes j ≡ q → key j ≡ key i
      to j l e = sym (x.names j l).0 ∙ ap (need_at ix.pairs) e ∙ there.0

      back : (j : ℕ) → j < i → key j ≡ key i → at classes j ≡ q
      back j l e =
          let f = x.numbering.first q h in
          let one : key (x.numbering.firsts q) ≡ key i = sym (x.names _ f.0).0 ∙ ap (need_at ix.pairs) f.1 ∙ there.0 in
          (x.by_key j (x.numbering.firsts q) l f.0).1 (e ∙ sym one) ∙ f.1

  naming_new : q ≡ ix.count → Absent ix (key i) 0 → {ix' : Index} → Pushed ix (key i) 0 ix' → Naming key classes' ix' (i + 1)
  naming_new h absent {ix'} there =
      record {
        linked = there.linked;
        room = simp length-set x.room;
        numbering = rw there.more (numbering_new x.numbering kept (here ∙ h));
        names = λ j l.
            ⊎_elim (λ (r : j < i). rw (kept j r) (old j r)) (λ (e : j ≡ i). rw (e, here, h) there.new) (split_last j i l);
        by_key = by_key_on (λ j l.
            let low = x.numbering.below j l in
            (λ e. absurd (omega (arith, low)), λ e. absurd (absent (at classes j) low (rw e at (x.names j l)))));
      }
    where
      old : (j : ℕ) → j < i → Pair ix'.pairs (key j) 0 (at classes j)
      old j l =
          let p = x.names j l in
          let o = there.old (at classes j) (x.numbering.below j l) in
          (o.0 ∙ p.0, o.1 ∙ p.1)

-- the next thing, placed by its key
naming_next : {key : ℕ → ℕ} {classes : List ℕ} {ix : Index} {i : ℕ} → Naming key classes ix i → i < capacity → {n : ℕ} → n ≡ key i
    → {ix' : Index} {q : ℕ} → Placed ix n 0 ix' q → Naming key (set classes i q) ix' (i + 1)
naming_next {key} {classes} {ix} {i} x more {n} e {ix'} {q} placed =
    look (rw e at placed)
  where
    look : Placed ix (key i) 0 ix' q → Naming key (set classes i q) ix' (i + 1)
    look (known h there f) = rw f (naming_known x more q h there)
    look (added h absent there) = naming_new x more q h absent there

-- how many pairs there are then
pub placed_count : {ix : Index} {need low : ℕ} {ix' : Index} {q : ℕ} → Placed ix need low ix' q → ix'.count ≡ max ix.count (q + 1)
placed_count (known h there f) = rw f (omega arith)
placed_count (added h absent there) = rw there.more (omega arith)

pub placed_low : {ix : Index} {need low : ℕ} {ix' : Index} {q : ℕ} → Placed ix need low ix' q → q ≤ ix.count
placed_low (known h there f) = omega arith
placed_low (added h absent there) = omega arith

-- a loop over k things, as long as they have at most 255 keys
pub record Splitting (key : ℕ → ℕ) (k : ℕ) (classes : List ℕ) (ix : Index) (i : ℕ) : Type 0 where
  pub naming : Naming key classes ix i
  pub few : ix.count ≤ 255

pub splitting_start : {ix : Index} (key : ℕ → ℕ) (k : ℕ) (classes : List ℕ) → length classes ≡ capacity → Linked ix × (ix.count ≡ 0)
    → Splitting key k classes ix 0
splitting_start key k classes r y =
    record { naming = naming_start key classes r y; few = omega (arith, y.1) }

module _ {key : ℕ → ℕ} {k : ℕ} {classes : List ℕ} {ix : Index} {i : ℕ} (x : Splitting key k classes ix i) (fits : k ≤ capacity) where
  pub splitting_next : i < k → {n : ℕ} → n ≡ key i → {ix' : Index} {q : ℕ} → Placed ix n 0 ix' q → (q ≡ 255 → ⊥)
      → Splitting key k (set classes i q) ix' (i + 1)
  splitting_next h e {q = q} placed unlike =
      record {
        naming = naming_next x.naming (omega arith) e placed;
        few = omega (arith, placed_count placed, placed_low placed, x.few, unlike);
      }

  -- a 256th key
  pub splitting_crowded : i < k → {n : ℕ} → n ≡ key i → {ix' : Index} {q : ℕ} → Placed ix n 0 ix' q → q ≡ 255 → Crowded k key
  splitting_crowded h e {ix'} {q} placed d =
      let m : ix'.count ≡ 256 = omega (arith, placed_count placed, placed_low placed, x.few) in
      let y = naming_next x.naming (omega arith) e placed in
      record {
        p = i + 1;
        class = at (set classes i q);
        le = omega arith;
        numbering = rw m at y.numbering;
        by_key = y.by_key;
      }

  pub splitting_end : i ≤ k → k ≤ i → Named k key classes ix.count
  splitting_end h l =
      let e : k ≡ i = omega arith in
      record { few = x.few; numbering = rw e x.naming.numbering; by_key = rw e x.naming.by_key }
