-- Edges read into rows, one behind another: what is found so far is what stands in the rows so far, since a word that is put touches no other.
-- Assumes nothing.
use Rattle.std.proofs.Common.{Ok, Err}
use Prim.Native.Nat.{ℕ, zero, suc, ◌+◌, ◌*◌, ◌≤◌, ◌<◌}
use mathlib.Core.Path.{◌≡◌, refl, sym, ap₂, subst, ◌∙◌}
use mathlib.Core.List.{List, [], ◌∷◌, ◌++◌}
use native.Mathlib.Omega.{arith}
use native.Mathlib.Numerals.{add-one}
use lib.ListN.{length, set, length-set}
use lib.Seq.{get_or-set_same, get_or-set_other}
use Rattle.ground.specs.Bytes.{at}
use Rattle.operations.specs.Alphabet.{stride}
use Rattle.texts.specs.Step.{Step, Part}
use Rattle.texts.specs.Language.{Any, Some, Unique}
use Rattle.texts.specs.Telling.{Items, part_taken, took, Finds}
use Rattle.texts.proofs.Telling.{unique_items, some_items, items_none, items_more, items_stop}
use Rattle.image.specs.Image.{word}
use Rattle.drawing_edges.specs.declared.Shape.{Shape}
use Rattle.drawing_edges.specs.Edges.{EdgePart, Shaped, nearest}
use Rattle.drawing_reader.specs.inner.Rows.{RowPart, RowsPart, in_order, row_told, rows_told, row_taken, Within, ReadsRow, ReadsRows}
use Rattle.drawing_edges.proofs.EdgeParts.{unique_edge, some_edge}
use Rattle.drawing_edges.proofs.EdgeTexts.{edge_small}
use Rattle.drawing_edges.proofs.Shapes.{edge_own}

in_order_same : {A : Type 0} (f g : ℕ → A) (n : ℕ) → ((i : ℕ) → i < n → f i ≡ g i) → in_order f n ≡ in_order g n
unfolding in_order
in_order_same f g zero h = refl
in_order_same {A} f g (suc n) h =
    ap₂ (λ (x : List A) (y : A). x ++ (y ∷ [])) (in_order_same f g n (λ i l. h i (omega arith))) (h n (omega arith))

in_order_more : {A : Type 0} (f g : ℕ → A) (n : ℕ) (a : A) → ((i : ℕ) → i < n → f i ≡ g i) → a ≡ g n → in_order f n ++ (a ∷ []) ≡ in_order g (suc n)
unfolding in_order
in_order_more {A} f g n a h e = ap₂ (λ (x : List A) (y : A). x ++ (y ∷ [])) (in_order_same f g n h) e

no_order : {A : Type 0} (f : ℕ → A) → ◌≡◌ {A = List A} [] (in_order f 0)
unfolding in_order
no_order f = refl

module _ (sh : Shape) (shaped : Shaped sh) where
  pub unique_row : (state : ℕ) → Unique (RowPart sh state)
  unique_row state = unique_items (EdgePart sh state) (unique_edge sh shaped state) sh.letters

  pub some_row : (state : ℕ) → Some (Any (RowPart sh state))
  some_row state = some_items (EdgePart sh state) (some_edge sh shaped state) sh.letters

  pub unique_rows : Unique (RowsPart sh)
  unique_rows = unique_items (RowPart sh) unique_row sh.states

  pub some_rows : Some (Any (RowsPart sh))
  some_rows = some_items (RowPart sh) some_row sh.states

-- the first edges of a state have been read
pub record RowSoFar (sh : Shape) (state : ℕ) (t : List ℕ) (start : ℕ) (rows₀ : List ℕ) (letter here : ℕ) (rows : List ℕ) : Type 0 where
  pub few : letter ≤ sh.letters
  pub size : length rows ≡ length rows₀
  pub found : Finds (Items (EdgePart sh state) letter) t start (took here (row_told letter rows state))
  pub rest : (i : ℕ) → (state * stride ≤ i → i < state * stride + letter → ⊥) → at rows i ≡ at rows₀ i

pub row_none : (sh : Shape) (state : ℕ) (t : List ℕ) (start : ℕ) (rows : List ℕ) → RowSoFar sh state t start rows 0 start rows
row_none sh state t start rows = record {
  few = omega arith;
  size = refl;
  found =
      subst (λ (v : List ℕ). Finds (Items (EdgePart sh state) 0) t start (took start v)) (no_order (word rows state))
      (items_none (EdgePart sh state) t start);
  rest = λ i out. refl;
}

module _ (sh : Shape) (shaped : Shaped sh) (state : ℕ) (t : List ℕ) (start : ℕ) (rows₀ : List ℕ) (letter here : ℕ) (rows : List ℕ)
    (so_far : RowSoFar sh state t start rows₀ letter here rows) where
  pub row_done : sh.letters ≤ letter → ReadsRow sh state t start rows₀ (Ok here) rows
  row_done l = record {
    size = so_far.size;
    found = subst (λ (n : ℕ). Finds (Items (EdgePart sh state) n) t start (took here (row_told n rows state))) all so_far.found;
    rest = λ i out. so_far.rest i (λ a b. out a (omega arith));
  }
    where
      all : letter ≡ sh.letters
      all = omega (arith, so_far.few)

  module _ (l : letter < sh.letters) (r : Part) (edge : Finds (EdgePart (nearest sh) state letter) t here (part_taken r)) where
    edge_is : {s : Part} → r ≡ s → Finds (EdgePart sh state letter) t here (part_taken s)
    edge_is e = subst (λ (s : Part). Finds (EdgePart sh state letter) t here (part_taken s)) e (edge_own sh state letter shaped edge)

    pub row_stop : {p : ℕ} → r ≡ Err p → ReadsRow sh state t start rows₀ (Err p) rows
    row_stop e = record {
      size = so_far.size;
      found =
          items_stop (EdgePart sh state) t start (unique_edge sh shaped state) (some_edge sh shaped state) letter sh.letters l so_far.found
          (edge_is e);
      rest = λ i out. so_far.rest i (λ a b. out a (omega arith));
    }

    pub row_small : {p w : ℕ} → r ≡ Ok (p, w) → w < 65536
    row_small e = edge_small sh shaped state letter (edge_is e)

    pub row_more : {p w : ℕ} → r ≡ Ok (p, w) → state * stride + letter < length rows
        → RowSoFar sh state t start rows₀ (letter + 1) p (set rows (state * stride + letter) w)
    row_more {p} {w} e inside = record {
      few = omega arith;
      size = length-set rows (state * stride + letter) w ∙ so_far.size;
      found =
          subst (λ (n : ℕ). Finds (Items (EdgePart sh state) n) t start (took p (row_told n rows' state))) (sym (add-one letter))
          (subst (λ (v : List ℕ). Finds (Items (EdgePart sh state) (suc letter)) t start (took p v)) told
          (items_more (EdgePart sh state) t start (unique_edge sh shaped state) letter so_far.found (edge_is e)));
      rest = λ i out. others i (λ is. out (omega arith) (omega arith)) ∙ so_far.rest i (λ a b. out a (omega arith));
    }
      where
        rows' : List ℕ
        rows' = set rows (state * stride + letter) w

        others : (i : ℕ) → (i ≡ state * stride + letter → ⊥) → at rows' i ≡ at rows i
        others i ne = get_or-set_other rows (state * stride + letter) i w 0 ne

        told : row_told letter rows state ++ (w ∷ []) ≡ row_told (suc letter) rows' state
        told =
            in_order_more (word rows state) (word rows' state) letter w (λ i h. sym (others (state * stride + i) (λ is. omega arith)))
            (sym (get_or-set_same rows (state * stride + letter) w 0 inside))

-- the first states have been read
pub record RowsSoFar (sh : Shape) (t : List ℕ) (start : ℕ) (rows₀ : List ℕ) (state here : ℕ) (rows : List ℕ) : Type 0 where
  pub few : state ≤ sh.states
  pub size : length rows ≡ length rows₀
  pub found : Finds (Items (RowPart sh) state) t start (took here (rows_told sh.letters rows state))
  pub rest : (i : ℕ) → (Within sh.letters state i → ⊥) → at rows i ≡ at rows₀ i

pub rows_none : (sh : Shape) (t : List ℕ) (start : ℕ) (rows : List ℕ) → RowsSoFar sh t start rows 0 start rows
rows_none sh t start rows = record {
  few = omega arith;
  size = refl;
  found =
      subst (λ (v : List (List ℕ)). Finds (Items (RowPart sh) 0) t start (took start v)) (no_order (row_told sh.letters rows))
      (items_none (RowPart sh) t start);
  rest = λ i out. refl;
}

module _ (sh : Shape) (shaped : Shaped sh) (t : List ℕ) (start : ℕ) (rows₀ : List ℕ) (state here : ℕ) (rows : List ℕ)
    (so_far : RowsSoFar sh t start rows₀ state here rows) where
  pub rows_done : sh.states ≤ state → ReadsRows sh t start rows₀ (Ok here) rows
  rows_done l = record {
    size = so_far.size;
    found = subst (λ (n : ℕ). Finds (Items (RowPart sh) n) t start (took here (rows_told sh.letters rows n))) all so_far.found;
    rest = λ i out. so_far.rest i (λ w. out (subst (λ (n : ℕ). Within sh.letters n i) all w));
  }
    where
      all : state ≡ sh.states
      all = omega (arith, so_far.few)

  module _ (l : state < sh.states) (r : Step) (rows' : List ℕ) (row : ReadsRow sh state t here rows r rows') where
    row_is : {s : Step} → r ≡ s → Finds (RowPart sh state) t here (row_taken sh.letters rows' state s)
    row_is e = subst (λ (s : Step). Finds (RowPart sh state) t here (row_taken sh.letters rows' state s)) e row.found

    -- a word that no state up to this one has is none of this state's, and none of those before it
    others : (n i : ℕ) → state < n → (Within sh.letters n i → ⊥) → at rows' i ≡ at rows₀ i
    others n i h out =
        row.rest i (λ low high. out (record { state = omega (arith, shaped.letters); letter = omega (arith, shaped.letters) }))
        ∙ so_far.rest i (λ w. out (record { state = omega (arith, w.state); letter = w.letter }))

    pub rows_stop : {p : ℕ} → r ≡ Err p → ReadsRows sh t start rows₀ (Err p) rows'
    rows_stop e = record {
      size = row.size ∙ so_far.size;
      found =
          items_stop (RowPart sh) t start (unique_row sh shaped) (some_row sh shaped) state sh.states l so_far.found (row_is e);
      rest = λ i out. others sh.states i l out;
    }

    pub rows_more : {p : ℕ} → r ≡ Ok p → RowsSoFar sh t start rows₀ (state + 1) p rows'
    rows_more {p} e = record {
      few = omega arith;
      size = row.size ∙ so_far.size;
      found =
          subst (λ (n : ℕ). Finds (Items (RowPart sh) n) t start (took p (rows_told sh.letters rows' n))) (sym (add-one state))
          (subst (λ (v : List (List ℕ)). Finds (Items (RowPart sh) (suc state)) t start (took p v)) told
          (items_more (RowPart sh) t start (unique_row sh shaped) state so_far.found (row_is e)));
      rest = λ i out. others (state + 1) i (omega arith) out;
    }
      where
        same : (s : ℕ) → s < state → row_told sh.letters rows s ≡ row_told sh.letters rows' s
        same s h =
            in_order_same (word rows s) (word rows' s) sh.letters
            (λ a k. sym (row.rest (s * stride + a) (λ low high. omega (arith, shaped.letters))))

        told : rows_told sh.letters rows state ++ (row_told sh.letters rows' state ∷ []) ≡ rows_told sh.letters rows' (suc state)
        told =
            in_order_more (row_told sh.letters rows) (row_told sh.letters rows') state (row_told sh.letters rows' state) same refl
