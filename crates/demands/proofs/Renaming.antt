-- A drawing in which the names alone are changed is that of the machine with these names, whose image differs in the bytes of the names and in block
-- 0's check alone: no other byte is made from a name. Assumes nothing.
use Prim.Native.Nat.{ℕ, ◌+◌, ◌-◌, ◌*◌, ◌/◌, ◌%◌, ◌<◌, ◌≤◌}
use mathlib.Core.Path.{◌≡◌, refl, sym, ap, ap₂, subst, ◌∙◌}
use mathlib.Core.Bool.{Bool, true, false, cond}
use mathlib.Core.Logic.{inl, inr}
use mathlib.Core.List.{List, [], ◌∷◌, ◌++◌, append_assoc, append_cancel_left}
use native.Mathlib.Decide.{dec_lt}
use native.Mathlib.Omega.{arith}
use borrow.Author.Tests.{ltb-false}
use lib.Dec.{T, ltb}
use lib.ListN.{length, replicate, get_or-append, get_or-eq_default, get_or-replicate}
use lib.Seq.{get_or-append-add}
use Rattle.ground.specs.Bytes.{bytes, at, name_byte}
use Rattle.operations.specs.Alphabet.{letters_with}
use Rattle.printing.specs.Decimal.{decimal}
use Rattle.printing.specs.Name.{unfilled}
use Rattle.printing.specs.Turns.{in_turn}
use Rattle.texts.specs.NamePart.{NameBytes, NameFormed}
use Rattle.places.specs.declared.Place.{Place}
use Rattle.places.specs.Layout.{stands_at}
use Rattle.places.specs.inner.Standing.{Stands}
use Rattle.places.proofs.Standing.{stands}
use Rattle.blocks.proofs.Sums.{check_same}
use Rattle.image.specs.declared.machine.Header.{Header}
use Rattle.image.specs.Image.{half, used, value_as, value_at, check_for, byte_at, size_of, image_of, header_of, rows_of, Canonical}
use Rattle.image.proofs.Canonicals.{length_image, canonical_accepted, same_header, same_rows}
use Rattle.image.proofs.Fronts.{at_listed}
use Rattle.image.proofs.Theorems.{written_read}
use Rattle.drawing.specs.Drawing.{way_word, node_line, state_edges, drawing_of}
use Rattle.drawing_label.specs.Label.{field}
use Rattle.drawing_label.proofs.Fields.{field_formed, field_name, name_formed}
use Rattle.demands.specs.Drawings.{Kept, DrawnAs, with_names, Renamed}
use Rattle.demands.proofs.Drawings.{machine_drawn, drawn_machine}

-- what stands behind the names: the rest of the label's line, and the lines below it
counts : Header → List ℕ
counts h = way_word h.way ++ (bytes " " ++ (decimal h.ups ++ (bytes " " ++ (decimal h.targets ++ bytes "\";\n"))))

below : Header → List ℕ → List ℕ
below h rows = in_turn node_line h.states ++ (in_turn (state_edges (letters_with h.ups) rows) h.states ++ bytes "}\n")

names_stand : (h : Header) (rows : List ℕ)
    → drawing_of h rows ≡ with_names (unfilled h.upstream) (unfilled h.target) (counts h ++ below h rows)
unfolding counts below
names_stand h rows =
    let upstream : List ℕ = unfilled h.upstream in
    let target : List ℕ = unfilled h.target in
    ap (λ (t : List ℕ). bytes "digraph shim {\nlabel=\"" ++ t)
    (append_assoc upstream (32 ∷ (target ++ (32 ∷ counts h))) (below h rows)
    ∙ ap (λ (t : List ℕ). upstream ++ (32 ∷ t)) (append_assoc target (32 ∷ counts h) (below h rows)))

-- a name ends with the blank behind it
name_ends : (a b r s : List ℕ) → NameBytes a → NameBytes b → a ++ (32 ∷ r) ≡ b ++ (32 ∷ s) → r ≡ s
name_ends [] [] r s ha hb e = cc
name_ends [] (y ∷ b) r s ha hb e = let z : 32 ≡ y = cc in absurd (subst (λ (c : ℕ). T (name_byte c)) (sym z) hb.0)
name_ends (x ∷ a) [] r s ha hb e = let z : 32 ≡ x = cc in absurd (subst (λ (c : ℕ). T (name_byte c)) (sym z) ha.0)
name_ends (x ∷ a) (y ∷ b) r s ha hb e =
    let t : a ++ (32 ∷ r) ≡ b ++ (32 ∷ s) = cc in
    name_ends a b r s ha.1 hb.1 t

same_behind : (a b c d r s : List ℕ) → NameFormed a → NameFormed b → NameFormed c → NameFormed d → with_names a b r ≡ with_names c d s → r ≡ s
same_behind a b c d r s fa fb fc fd e =
    name_ends b d r s fb.bytes fd.bytes
    (name_ends a c (b ++ (32 ∷ r)) (d ++ (32 ∷ s)) fa.bytes fc.bytes
    (append_cancel_left (bytes "digraph shim {\nlabel=\"") (a ++ (32 ∷ (b ++ (32 ∷ r)))) (c ++ (32 ∷ (d ++ (32 ∷ s)))) e))

-- a name stands at the front of its field
field_at : (n : List ℕ) (k : ℕ) → k < 16 → at (field n) k ≡ at n k
field_at n k l =
    elim (dec_lt k (length n)) [
      | yes m ↦ get_or-append n (replicate (16 - length n) 0) 0 k m
      | no m ↦
          let e : length n + (k - length n) ≡ k = omega arith in
          ap (at (field n)) (sym e)
          ∙ get_or-append-add n (replicate (16 - length n) 0) (k - length n) 0
          ∙ get_or-replicate {A = ℕ} (16 - length n) (k - length n) 0 0 (omega arith)
          ∙ sym (get_or-eq_default n 0 (omega arith))
    ]

no_name : {k : ℕ} → Kept k → 7 ≤ k → k < 39 → ⊥
no_name (inl l) p q = omega arith
no_name (inr (inl (l, n))) p q = omega arith
no_name (inr (inr l)) p q = omega arith

later_block : {k : ℕ} → Kept k → 510 ≤ k % 512 → 0 < k / 512
later_block (inl l) p = omega arith
later_block (inr (inl (l, n))) p = omega arith
later_block (inr (inr l)) p = omega arith

module _ (h : Header) (rows upstream target : List ℕ) (m : Canonical h rows) (fu : NameFormed upstream) (ft : NameFormed target) where
  abbrev other : Header
  other = record {
    way = h.way;
    states = h.states;
    ups = h.ups;
    targets = h.targets;
    upstream = field upstream;
    target = field target;
  }

  other_machine : Canonical other rows
  other_machine = record {
    way = m.way;
    some = m.some;
    states = m.states;
    ups = m.ups;
    targets = m.targets;
    upstream = field_formed upstream fu;
    target = field_formed target ft;
    accesses = m.accesses;
    fences = m.fences;
    absent = m.absent;
  }

  other_text : with_names upstream target (counts h ++ below h rows) ≡ drawing_of other rows
  unfolding counts below
  other_text =
      sym (names_stand other rows
      ∙ ap₂ (λ (x y : List ℕ). with_names x y (counts h ++ below h rows)) (field_name upstream fu) (field_name target ft))

  value_kept : (k : ℕ) → Kept k → (place : Place) → Stands k place → value_as other rows k place ≡ value_as h rows k place
  unfolding used
  value_kept k c Place.Number s = refl
  value_kept k c Place.Form s = refl
  value_kept k c Place.Way s = refl
  value_kept k c Place.States s = refl
  value_kept k c Place.UpstreamFences s = refl
  value_kept k c Place.TargetFences s = refl
  value_kept k c (Place.UpstreamName j) s = absurd (no_name c (omega (arith, s.0)) (omega (arith, s.0, s.1)))
  value_kept k c (Place.TargetName j) s = absurd (no_name c (omega (arith, s.0)) (omega (arith, s.0, s.1)))
  value_kept k c (Place.Fence q a) s = refl
  value_kept k c (Place.Next q a) s = refl
  value_kept k c (Place.FenceNext q f) s = refl
  value_kept k c Place.Nothing s = refl
  value_kept k c Place.Check s = refl

  check_kept : (b : ℕ) → 0 < b → check_for other rows b ≡ check_for h rows b
  unfolding check_for value_at
  check_kept b l = check_same _ _ (λ p n. value_kept (512 * b + p) (inr (inr (omega arith))) (stands_at 1 (512 * b + p)) (stands (512 * b + p)))

  byte_kept : (k : ℕ) → Kept k → byte_at other rows k ≡ byte_at h rows k
  unfolding byte_at value_at
  byte_kept k c = by (ltb (k % 512) 510) refl
    where
      by : (q : Bool) → ltb (k % 512) 510 ≡ q
          → cond q (value_at other rows k) (half k (check_for other rows (k / 512))) ≡ cond q (value_at h rows k) (half k (check_for h rows (k / 512)))
      by true e = value_kept k c (stands_at 1 k) (stands k)
      by false e = ap (half k) (check_kept (k / 512) (later_block c (ltb-false (k % 512) 510 e)))

  image_kept : (k : ℕ) → Kept k → at (image_of other rows) k ≡ at (image_of h rows) k
  unfolding image_of
  image_kept k c =
      elim (dec_lt k (size_of h)) [
        | yes l ↦ at_listed (size_of h) (byte_at other rows) k l ∙ byte_kept k c ∙ sym (at_listed (size_of h) (byte_at h rows) k l)
        | no l ↦
            get_or-eq_default (image_of other rows) 0 (omega (arith, length_image other rows other_machine))
            ∙ sym (get_or-eq_default (image_of h rows) 0 (omega (arith, length_image h rows m)))
      ]

  other_image : Renamed upstream target (image_of other rows) (image_of h rows)
  unfolding header_of
  other_image = record {
    accepted = canonical_accepted other rows other_machine;
    size = length_image other rows other_machine ∙ sym (length_image h rows m);
    upstream_is = λ k l.
        sym (at_listed 16 (λ (j : ℕ). at (image_of other rows) (7 + j)) k l)
        ∙ ap (λ (x : Header). at x.upstream k) (same_header other rows other_machine)
        ∙ field_at upstream k l;
    target_is = λ k l.
        sym (at_listed 16 (λ (j : ℕ). at (image_of other rows) (23 + j)) k l)
        ∙ ap (λ (x : Header). at x.target k) (same_header other rows other_machine)
        ∙ field_at target k l;
    kept = image_kept;
    rows_kept = same_rows other rows other_machine ∙ sym (same_rows h rows m);
  }

module _ {image : List ℕ} where
  -- a drawing has two names
  pub drawing_names : {text : List ℕ} → DrawnAs image text
      → (upstream target rest : List ℕ) × NameFormed upstream × NameFormed target × (text ≡ with_names upstream target rest)
  drawing_names d =
      let h : Header = header_of image in
      let rows : List ℕ = rows_of image in (
        unfilled h.upstream,
        unfilled h.target,
        counts h ++ below h rows,
        name_formed h.upstream (drawn_machine d).upstream,
        name_formed h.target (drawn_machine d).target,
        d.text_is ∙ names_stand h rows,
      )

  -- and with others in their place it is a drawing again
  pub renamed_drawn : (upstream target upstream' target' rest : List ℕ) → NameFormed upstream → NameFormed target → NameFormed upstream'
      → NameFormed target' → DrawnAs image (with_names upstream target rest)
      → (other : List ℕ) × DrawnAs other (with_names upstream' target' rest) × Renamed upstream' target' other image
  renamed_drawn upstream target upstream' target' rest fu ft fu' ft' d =
      let h : Header = header_of image in
      let rows : List ℕ = rows_of image in
      let m : Canonical h rows = drawn_machine d in
      let behind : rest ≡ counts h ++ below h rows =
      same_behind upstream target (unfilled h.upstream) (unfilled h.target) rest (counts h ++ below h rows) fu ft
      (name_formed h.upstream m.upstream) (name_formed h.target m.target) (d.text_is ∙ names_stand h rows) in
      let renamed : Header = other h rows upstream' target' m fu' ft' in (
        image_of renamed rows,
        machine_drawn renamed rows (other_machine h rows upstream' target' m fu' ft')
            (ap (with_names upstream' target') behind ∙ other_text h rows upstream' target' m fu' ft'),
        subst (Renamed upstream' target' (image_of renamed rows)) (written_read image d.bytes d.accepted)
            (other_image h rows upstream' target' m fu' ft'),
      )
