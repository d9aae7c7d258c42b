-- The texts of the whole part are exactly the drawings: each of its parts has the text of its lines, and the `0` behind the nodes is the first
-- edge's. Assumes nothing.
use Prim.Native.Nat.{ℕ, ◌+◌, ◌-◌, ◌*◌, ◌/◌, ◌%◌, ◌≤◌, ◌<◌}
use mathlib.Core.Path.{◌≡◌, refl, sym, ap, ap₂, subst, ◌∙◌}
use mathlib.Core.Bool.{false}
use mathlib.Core.List.{List, [], ◌∷◌, ◌++◌, append_assoc}
use native.Mathlib.Omega.{arith}
use native.Mathlib.Decide.{dec_lt}
use lib.ListN.{get_or, get_or-eq_default}
use Rattle.ground.specs.Bytes.{at, bytes}
use Rattle.operations.specs.Alphabet.{access_letters, letters_with, stride}
use Rattle.printing.specs.Name.{unfilled}
use Rattle.printing.specs.Turns.{in_turn}
use Rattle.texts.specs.Language.{Any, Some, Unique}
use Rattle.texts.specs.NamePart.{NameFormed}
use Rattle.texts.specs.Telling.{After, Word}
use Rattle.texts.proofs.Language.{seq_join, seq_apart}
use Rattle.texts.proofs.Telling.{unique_told, unique_then, unique_through, unique_after, unique_word}
use Rattle.texts.proofs.Telling.{some_told, some_then, some_through, some_after, some_word}
use Rattle.image.specs.declared.machine.Header.{Header}
use Rattle.image.specs.Image.{word, Canonical, NameField}
use Rattle.image.proofs.Fronts.{at_listed}
use Rattle.drawing.specs.Drawing.{node_line, state_edges, label_line, drawing_of}
use Rattle.drawing_edges.specs.declared.Shape.{Shape}
use Rattle.drawing_reader.specs.Undrawing.{Drawing}
use Rattle.drawing_label.specs.Label.{Label, LabelPart, LabelFormed, label_text, label_for, field, Fielded}
use Rattle.drawing_nodes.specs.Nodes.{NodesPart}
use Rattle.drawing_edges.specs.Edges.{Shaped, EdgeWord, WordOf}
use Rattle.drawing_reader.specs.inner.Rows.{RowsPart, RowsAre, row_told, rows_told}
use Rattle.drawing_reader.specs.inner.Whole.{Drawn, shape_for, DrawingEnd, FromEdges, FromNodes, WholePart, header_for, rows_for, drawn_for}
use Rattle.drawing_label.proofs.Fields.{field_formed, field_name, name_formed}
use Rattle.drawing_label.proofs.Labels.{unique_label, label_text_lem, text_label, label_line_lem}
use Rattle.drawing_nodes.proofs.NodeLines.{unique_nodes, some_nodes, nodes_text, text_nodes}
use Rattle.drawing_reader.proofs.EdgeRows.{unique_rows, some_rows}
use Rattle.drawing_reader.proofs.EdgeLines.{in_order_all, access_word, word_access, fence_word}
use Rattle.drawing_reader.proofs.EdgeLines.{word_fence, rows_told_lem, rows_written, rows_of, rows_begin}

-- a label and a number of nodes that were told make a shape
pub shaped_for : (l : Label) (n : ℕ) → LabelFormed l → 1 ≤ n → n ≤ 255 → Shaped (shape_for l n)
shaped_for l n f some few = record { some = some; states = few; letters = omega (arith, f.ups); targets = f.targets }

module _ (l : Label) (n : ℕ) (shaped : Shaped (shape_for l n)) where
  unique_edges : Unique (FromEdges l n)
  unique_edges =
      unique_then (RowsPart (shape_for l n)) (DrawingEnd l n) (unique_rows (shape_for l n) shaped)
      (λ words. unique_through (λ _. record { label = l; states = n; words = words }) (Word (bytes "}\n")) (unique_word (bytes "}\n")))

  pub some_end : (words : List (List ℕ)) → Some (Any (DrawingEnd l n words))
  some_end words = some_through (λ _. record { label = l; states = n; words = words }) (Word (bytes "}\n")) (some_word (bytes "}\n"))

  pub some_edges : Some (Any (FromEdges l n))
  some_edges = some_then (RowsPart (shape_for l n)) (DrawingEnd l n) (some_rows (shape_for l n) shaped) some_end

  pub edges_begin : (d : Drawn) (x : List ℕ) → FromEdges l n d x → (y : List ℕ) × (x ≡ 48 ∷ y)
  edges_begin d x (words, s) =
      let p = seq_apart (RowsPart (shape_for l n) words) (DrawingEnd l n words d) x s in
      let f = rows_begin (shape_for l n) shaped (omega arith) words p.0 p.3 in
      (f.0 ++ p.1, p.2 ∙ ap (λ (z : List ℕ). z ++ p.1) f.1)

module _ (l : Label) (formed : LabelFormed l) where
  shaped_told : (n : ℕ) (x : List ℕ) → NodesPart n x → Shaped (shape_for l n)
  shaped_told n x nodes = let t = nodes_text n x nodes in shaped_for l n formed t.0 t.1

  pub unique_from_nodes : Unique (FromNodes l)
  unique_from_nodes =
      unique_told NodesPart (λ n. After 48 (FromEdges l n)) unique_nodes
      (λ n x nodes. unique_after 48 (FromEdges l n) (unique_edges l n (shaped_told n x nodes)))

  pub some_behind_nodes : (n : ℕ) (x : List ℕ) → NodesPart n x → Some (Any (After 48 (FromEdges l n)))
  some_behind_nodes n x nodes =
      let shaped = shaped_told n x nodes in
      some_after 48 (FromEdges l n) (edges_begin l n shaped) (some_edges l n shaped)

  pub some_from_nodes : Some (Any (FromNodes l))
  some_from_nodes = some_told NodesPart (λ n. After 48 (FromEdges l n)) some_nodes some_behind_nodes

pub some_behind_label : (l : Label) (x : List ℕ) → LabelPart l x → Some (Any (FromNodes l))
some_behind_label l x label = some_from_nodes l (label_text_lem l x label).0

pub unique_whole : Unique WholePart
unique_whole = unique_told LabelPart FromNodes unique_label (λ l x label. unique_from_nodes l (label_text_lem l x label).0)

-- the parts of a whole
record PartsOf (d : Drawn) (t : List ℕ) : Type 0 where
  edges : List ℕ
  label_formed : LabelFormed d.label
  some : 1 ≤ d.states
  few : d.states ≤ 255
  edges_part : RowsPart (shape_for d.label d.states) d.words edges
  text : t ≡ label_text d.label ++ (in_turn node_line d.states ++ (edges ++ bytes "}\n"))

parts_of : (d : Drawn) (t : List ℕ) → WholePart d t → PartsOf d t
parts_of d t (l, whole) = from_label (seq_apart (LabelPart l) (FromNodes l d) t whole)
  where
    from_label : (a : List ℕ) × (b : List ℕ) × (t ≡ a ++ b) × LabelPart l a × FromNodes l d b → PartsOf d t
    from_label (a, b, ab, label, (n, nodes)) = from_nodes (seq_apart (NodesPart n) (After 48 (FromEdges l n) d) b nodes)
      where
        from_nodes : (x : List ℕ) × (y : List ℕ) × (b ≡ x ++ y) × NodesPart n x × FromEdges l n d (48 ∷ y) → PartsOf d t
        from_nodes (x, y, xy, node, (words, edges)) = from_edges (seq_apart (RowsPart (shape_for l n) words) (DrawingEnd l n words d) (48 ∷ y) edges)
          where
            from_edges : (e : List ℕ) × (z : List ℕ) × (48 ∷ y ≡ e ++ z) × RowsPart (shape_for l n) words e × DrawingEnd l n words d z → PartsOf d t
            from_edges (e, z, ez, rows, (_, is, last)) = record {
              edges = e;
              label_formed = subst LabelFormed same_label told.0;
              some = subst (λ (k : ℕ). 1 ≤ k) same_states lines.0;
              few = subst (λ (k : ℕ). k ≤ 255) same_states lines.1;
              edges_part = subst (λ (c : Drawn). RowsPart (shape_for c.label c.states) c.words e) is rows;
              text =
                  ab ∙ ap₂ (λ (u v : List ℕ). u ++ v) (told.1 ∙ ap label_text same_label)
                  (xy ∙ ap (λ (u : List ℕ). u ++ y) lines.2 ∙ append_assoc (in_turn node_line n) (bytes "0") y
                  ∙ ap₂ (λ (k : ℕ) (u : List ℕ). in_turn node_line k ++ u) same_states (ez ∙ ap (λ (u : List ℕ). e ++ u) last));
            }
              where
                same_label : l ≡ d.label
                same_label = ap (λ (c : Drawn). c.label) is

                same_states : n ≡ d.states
                same_states = ap (λ (c : Drawn). c.states) is

                told : LabelFormed l × (a ≡ label_text l)
                told = label_text_lem l a label

                lines : (1 ≤ n) × (n ≤ 255) × (x ≡ in_turn node_line n ++ bytes "0")
                lines = nodes_text n x node

whole_of : (d : Drawn) (t : List ℕ) → PartsOf d t → WholePart d t
whole_of d t p =
    subst (WholePart d) (sym text) (
      d.label,
      seq_join (LabelPart d.label) (FromNodes d.label d) _ _
          (text_label d.label p.label_formed) nodes,
    )
  where
    sh : Shape
    sh = shape_for d.label d.states

    shaped : Shaped sh
    shaped = shaped_for d.label d.states p.label_formed p.some p.few

    begin : (y : List ℕ) × (p.edges ≡ 48 ∷ y)
    begin = rows_begin sh shaped (omega arith) d.words p.edges p.edges_part

    behind : List ℕ
    behind = begin.0 ++ bytes "}\n"

    edges : FromEdges d.label d.states d (48 ∷ behind)
    edges =
        subst (FromEdges d.label d.states d) (ap (λ (u : List ℕ). u ++ bytes "}\n") begin.1) (
          d.words,
          seq_join (RowsPart sh d.words) (DrawingEnd d.label d.states d.words d) p.edges (bytes "}\n") p.edges_part
              (tt, refl, refl),
        )

    lines : List ℕ
    lines = in_turn node_line d.states ++ bytes "0"

    nodes : FromNodes d.label d (lines ++ behind)
    nodes = (
      d.states,
      seq_join (NodesPart d.states) (After 48 (FromEdges d.label d.states) d) lines behind
          (text_nodes d.states p.some p.few) edges,
    )

    text : t ≡ label_text d.label ++ (lines ++ behind)
    text =
        p.text
        ∙ ap (λ (u : List ℕ). label_text d.label ++ (in_turn node_line d.states ++ (u ++ bytes "}\n"))) begin.1
        ∙ ap (λ (u : List ℕ). label_text d.label ++ u) (sym (append_assoc (in_turn node_line d.states) (bytes "0") behind))

-- of a machine: what was told of it is its drawing, and back
module _ (h : Header) (rows : List ℕ) where
  sh : Shape
  sh = shape_for (label_for h) h.states

  drawing_text : label_text (label_for h)
      ++ (in_turn node_line h.states ++ (in_turn (state_edges (letters_with h.ups) rows) h.states ++ bytes "}\n"))
      ≡ drawing_of h rows
  drawing_text =
      let rest : List ℕ = in_turn node_line h.states ++ (in_turn (state_edges (letters_with h.ups) rows) h.states ++ bytes "}\n") in
      ap (λ (u : List ℕ). u ++ rest) (label_line_lem h) ∙ append_assoc (bytes "digraph shim {\n") (label_line h) rest

  named : {x : List ℕ} → Fielded x → NameFormed (unfilled x) → NameField x
  named e f = subst NameField e (field_formed _ f)

  pub drawing_told : Fielded h.upstream → Fielded h.target
      → ((s f : ℕ) → s < h.states → h.ups ≤ f → f < 16 → word rows s (access_letters + f) ≡ 0) → (t : List ℕ) → WholePart (drawn_for h rows) t
      → Canonical h rows × (t ≡ drawing_of h rows)
  unfolding sh
  drawing_told up target absent t whole = (canonical, text)
    where
      p : PartsOf (drawn_for h rows) t
      p = parts_of (drawn_for h rows) t whole

      good : ((s a : ℕ) → s < h.states → a < letters_with h.ups → EdgeWord sh a (word rows s a))
          × (p.edges ≡ in_turn (state_edges (letters_with h.ups) rows) h.states)
      good = rows_of sh (shaped_for (label_for h) h.states p.label_formed p.some p.few) rows p.edges p.edges_part

      text : t ≡ drawing_of h rows
      text = p.text ∙ ap (λ (u : List ℕ). label_text (label_for h) ++ (in_turn node_line h.states ++ (u ++ bytes "}\n"))) good.1 ∙ drawing_text

      canonical : Canonical h rows
      canonical = record {
        way = p.label_formed.way;
        some = p.some;
        states = p.few;
        ups = p.label_formed.ups;
        targets = p.label_formed.targets;
        upstream = named up p.label_formed.upstream;
        target = named target p.label_formed.target;
        accesses = (λ s a m l. access_word sh a (word rows s a) l (good.0 s a m (omega arith)));
        fences =
            (λ s f m l. fence_word sh (access_letters + f) (word rows s (access_letters + f)) (omega arith)
            (good.0 s (access_letters + f) m (omega arith)));
        absent = absent;
      }

  pub drawing_whole : Canonical h rows → WholePart (drawn_for h rows) (drawing_of h rows)
  unfolding sh
  drawing_whole can = whole_of (drawn_for h rows) (drawing_of h rows) (record {
    edges = in_turn (state_edges (letters_with h.ups) rows) h.states;
    label_formed = formed;
    some = can.some;
    few = can.states;
    edges_part = rows_written sh (shaped_for (label_for h) h.states formed can.some can.states) rows good;
    text = sym drawing_text;
  })
    where
      formed : LabelFormed (label_for h)
      formed = record {
        upstream = name_formed h.upstream can.upstream;
        target = name_formed h.target can.target;
        way = can.way;
        ups = can.ups;
        targets = can.targets;
      }

      good : (s a : ℕ) → s < h.states → a < letters_with h.ups → EdgeWord sh a (word rows s a)
      good s a m l = by (dec_lt a access_letters)
        where
          by : Dec (a < access_letters) → EdgeWord sh a (word rows s a)
          by (yes k) = word_access sh a (word rows s a) k (can.accesses s a m k)
          by (no k) =
              let e : access_letters + (a - access_letters) ≡ a = omega arith in
              word_fence sh a (word rows s a) (omega arith)
              (subst (λ (i : ℕ). WordOf false sh (word rows s i)) e (can.fences s (a - access_letters) m (omega arith)))

-- any text of the whole is the drawing of a machine
module _ (d : Drawn) (t : List ℕ) (whole : WholePart d t) where
  p : PartsOf d t
  p = parts_of d t whole

  n : ℕ
  n = d.states

  h : Header
  h = header_for d.label n

  rows : List ℕ
  rows = rows_for n d.words

  are : RowsAre (shape_for d.label d.states) d.words p.edges
  unfolding p
  are =
      rows_told_lem (shape_for d.label d.states) (shaped_for d.label d.states p.label_formed p.some p.few) d.words p.edges
      p.edges_part

  word_is : (s a : ℕ) → s < n → a < stride → word rows s a ≡ at (get_or d.words s []) a
  unfolding rows n rows_for
  word_is s a l m =
      let state : (s * stride + a) / stride ≡ s = omega arith in
      let letter : (s * stride + a) % stride ≡ a = omega arith in
      at_listed (n * stride) (λ (j : ℕ). at (get_or d.words (j / stride) []) (j % stride)) (s * stride + a) (omega arith)
      ∙ ap₂ (λ (i j : ℕ). at (get_or d.words i []) j) state letter

  few_letters : letters_with d.label.ups ≤ stride
  few_letters = omega (arith, p.label_formed.ups)

  words_are : rows_told (letters_with d.label.ups) rows n ≡ d.words
  unfolding n
  words_are =
      in_order_all [] d.words (row_told (letters_with d.label.ups) rows) n are.states
      (λ s l. sym (in_order_all 0 (get_or d.words s []) (word rows s) (letters_with d.label.ups) (are.letters s l)
      (λ a m. sym (word_is s a l (omega (arith, few_letters, m))))))

  absent : (s f : ℕ) → s < n → d.label.ups ≤ f → f < 16 → word rows s (access_letters + f) ≡ 0
  unfolding n
  absent s f l m k =
      word_is s (access_letters + f) l (omega arith)
      ∙ get_or-eq_default (get_or d.words s []) 0 (omega (arith, are.letters s l))

  label_is : label_for h ≡ d.label
  unfolding h n
  label_is =
      ap₂ (λ (u v : List ℕ). record { upstream = u; target = v; way = d.label.way; ups = d.label.ups; targets = d.label.targets })
      (field_name d.label.upstream p.label_formed.upstream) (field_name d.label.target p.label_formed.target)

  drawn_is : d ≡ drawn_for h rows
  unfolding h n
  drawn_is = sym (ap₂ (λ (l : Label) (w : List (List ℕ)). record { label = l; states = d.states; words = w }) label_is words_are)

  pub whole_drawing : Drawing t
  unfolding h n
  whole_drawing =
      let told = drawing_told h rows (ap field (field_name d.label.upstream p.label_formed.upstream))
      (ap field (field_name d.label.target p.label_formed.target)) absent t (subst (λ (c : Drawn). WholePart c t) drawn_is whole) in
      (h, rows, told.0, told.1)

pub any_drawing : (t : List ℕ) → Any WholePart t → Drawing t
any_drawing t (d, whole) = whole_drawing d t whole

pub drawing_any : (t : List ℕ) → Drawing t → Any WholePart t
drawing_any t (h, rows, can, e) = (drawn_for h rows, subst (WholePart (drawn_for h rows)) (sym e) (drawing_whole h rows can))
