-- What a reader wants to find of drawings that are read: a drawing tells one machine. Assumes nothing.
use Prim.Native.Nat.{ℕ, ◌+◌, ◌-◌, ◌<◌}
use mathlib.Core.Path.{◌≡◌, sym, ap, ap₂, subst, ◌∙◌}
use mathlib.Core.List.{List, []}
use native.Mathlib.Omega.{arith}
use native.Mathlib.Decide.{dec_lt}
use lib.ListN.{length, take, get_or}
use lib.Seq.{take-length}
use Rattle.ground.specs.Bytes.{at}
use Rattle.operations.specs.Alphabet.{access_letters, letters_with, stride}
use Rattle.image.specs.declared.machine.Header.{Header}
use Rattle.image.specs.Image.{word, image_of, Canonical}
use Rattle.image.proofs.SameWords.{image_of_words}
use Rattle.drawing.specs.Drawing.{drawing_of}
use Rattle.drawing_label.specs.Label.{Label, field}
use Rattle.drawing_reader.specs.inner.Rows.{row_told}
use Rattle.drawing_reader.specs.inner.Whole.{Drawn, WholePart, drawn_for}
use Rattle.drawing_label.proofs.Fields.{name_field}
use Rattle.drawing_reader.proofs.EdgeLines.{at_in_order}
use Rattle.drawing_reader.proofs.Whole.{unique_whole, drawing_whole}

-- a header with other name fields
abbrev with_fields : Header → List ℕ → List ℕ → Header
with_fields h upstream target =
    record { way = h.way; states = h.states; ups = h.ups; targets = h.targets; upstream = upstream; target = target }

module _ (h h' : Header) (rows rows' : List ℕ) (can : Canonical h rows) (can' : Canonical h' rows')
    (same : drawing_of h rows ≡ drawing_of h' rows') where
  -- what the two tell
  told : drawn_for h rows ≡ drawn_for h' rows'
  told =
      let t : List ℕ = drawing_of h rows in
      let all : take (length t) t ≡ t = take-length t in
      (unique_whole t (length t) (length t) (drawn_for h rows) (drawn_for h' rows') (omega arith) (omega arith)
      (subst (WholePart (drawn_for h rows)) (sym all) (drawing_whole h rows can))
      (subst (WholePart (drawn_for h' rows')) (sym (all ∙ same)) (drawing_whole h' rows' can'))).1

  label_same : (drawn_for h rows).label ≡ (drawn_for h' rows').label
  label_same = ap (λ (d : Drawn). d.label) told

  pub header_same : h ≡ h'
  header_same =
      let fields : Label → ℕ → Header = λ l n.
      record { way = l.way; states = n; ups = l.ups; targets = l.targets; upstream = field l.upstream; target = field l.target } in
      sym (ap₂ (λ (u t : List ℕ). with_fields h u t) (name_field h.upstream can.upstream) (name_field h.target can.target))
      ∙ ap₂ fields label_same (ap (λ (d : Drawn). d.states) told)
      ∙ ap₂ (λ (u t : List ℕ). with_fields h' u t) (name_field h'.upstream can'.upstream) (name_field h'.target can'.target)

  word_same : (s a : ℕ) → s < h.states → a < stride → word rows s a ≡ word rows' s a
  word_same s a l m = by (dec_lt a (letters_with h.ups))
    where
      ups : h.ups ≡ h'.ups
      ups = ap (λ (x : Header). x.ups) header_same

      states : h.states ≡ h'.states
      states = ap (λ (x : Header). x.states) header_same

      by : Dec (a < letters_with h.ups) → word rows s a ≡ word rows' s a
      by (yes k) =
          sym (row h rows l k) ∙ ap (λ (d : Drawn). at (get_or d.words s []) a) told ∙ row h' rows' (omega (arith, states, l))
          (omega (arith, ups, k))
        where
          row : (g : Header) (r : List ℕ) → s < g.states → a < letters_with g.ups → at (get_or (drawn_for g r).words s []) a ≡ word r s a
          row g r l k =
              ap (λ (x : List ℕ). at x a) (at_in_order (row_told (letters_with g.ups) r) [] g.states s l) ∙ at_in_order (word r s) 0
              (letters_with g.ups) a k
      by (no k) =
          let e : access_letters + (a - access_letters) ≡ a = omega arith in
          ap (word rows s) (sym e) ∙ can.absent s (a - access_letters) l (omega arith) (omega arith)
          ∙ sym (ap (word rows' s) (sym e) ∙ can'.absent s (a - access_letters) (omega (arith, states, l)) (omega (arith, ups, k)) (omega arith))

  -- A drawing has one image.
  pub drawing_one : image_of h rows ≡ image_of h' rows'
  drawing_one = image_of_words h rows rows' word_same ∙ ap (λ (x : Header). image_of x rows') header_same
