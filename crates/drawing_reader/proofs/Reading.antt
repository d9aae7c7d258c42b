-- How the reader goes on from one part of a drawing to the next, and what it has read in the end: each by the law for one part and then another,
-- and by the texts of the whole part, which are the drawings. Assumes nothing.
use Rattle.std.specs.Prelude.{IsErrAnd, MatchResult}
use Rattle.std.proofs.Common.{Result, Ok, Err}
use Prim.Native.Nat.{ℕ, ◌+◌, ◌*◌, ◌%◌, ◌≤◌, ◌<◌}
use mathlib.Core.Path.{◌≡◌, refl, sym, ap, ap₂, subst, ◌∙◌}
use mathlib.Core.List.{List, [], ◌++◌}
use native.Mathlib.Omega.{arith}
use native.Mathlib.Decide.{dec_lt}
use lib.ListN.{length, take, drop, get_or, replicate, length-append, length-drop, length-replicate, get_or-replicate, get_or-eq_default}
use lib.Seq.{get_or-drop, get_or-take, get_or_at, length-take-le}
use Rattle.ground.specs.Bytes.{at, bytes}
use Rattle.answers.specs.declared.Refusal.{Refusal}
use Rattle.operations.specs.Alphabet.{access_letters, stride}
use Rattle.printing.specs.Turns.{in_turn}
use Rattle.texts.specs.Step.{Step, Part}
use Rattle.texts.specs.Language.{Telling, Longest, Any}
use Rattle.texts.specs.Pattern.{follow_at}
use Rattle.texts.specs.Telling.{After, Through, Word, Taken, took, stopped, Finds, finds, departs, word_taken}
use Rattle.texts.proofs.Language.{longest_iff}
use Rattle.texts.proofs.Telling.{whole_told, whole_passed, whole_stopped}
use Rattle.texts.proofs.Telling.{then_stops, then_goes, stops_told, through_took, through_stopped, finds_word, finds_after}
use Rattle.image.specs.declared.machine.Header.{Header}
use Rattle.image.specs.Image.{word, Canonical}
use Rattle.image.proofs.SameWords.{canonical_words}
use Rattle.drawing.specs.Drawing.{node_line, drawing_of}
use Rattle.drawing.proofs.SameWords.{drawing_of_words}
use Rattle.drawing_edges.specs.declared.Shape.{Shape}
use Rattle.drawing_label.specs.declared.LabelRead.{LabelRead}
use Rattle.drawing_reader.specs.declared.DrawingRead.{DrawingRead}
use Rattle.drawing_reader.specs.Undrawing.{Drawing}
use Rattle.drawing_label.specs.Label.{Label, LabelPart, LabelFormed, label_of, label_for, label_taken}
use Rattle.drawing_nodes.specs.Nodes.{NodesPart, nodes_taken}
use Rattle.drawing_edges.specs.Edges.{Shaped}
use Rattle.drawing_reader.specs.inner.Rows.{RowsPart, ReadsRows, rows_taken}
use Rattle.drawing_reader.specs.inner.Whole.{Drawn, shape_for, DrawingEnd, FromEdges, FromNodes, WholePart, drawn_for, drawn_taken, ReadsDrawn, Reads}
use Rattle.drawing_label.proofs.Labels.{unique_label, told_formed}
use Rattle.drawing_nodes.proofs.NodeLines.{unique_nodes, nodes_text}
use Rattle.drawing_reader.proofs.EdgeRows.{unique_rows}
use Rattle.drawing_reader.proofs.Whole.{shaped_for, some_end, some_edges, edges_begin, some_behind_nodes, some_behind_label}
use Rattle.drawing_reader.proofs.Whole.{unique_whole, drawing_told, any_drawing, drawing_any}

-- the shape of a machine, by the numbers of its letters and fences as they were read from its header
pub shape_is : (h : Header) {ups targets : ℕ} → ups ≡ h.ups → targets ≡ h.targets
    → ◌≡◌ {A = Shape} (record { states = h.states; letters = access_letters + ups; targets = targets }) (shape_for (label_for h) h.states)
shape_is h e f = ap₂ (λ (u t : ℕ). record { states = h.states; letters = access_letters + u; targets = t }) e f

pub header_shaped : (h : Header) {l : Label} {n : ℕ} → label_for h ≡ l → h.states ≡ n → LabelFormed l → (1 ≤ n) × (n ≤ 255)
    → Shaped (shape_for (label_for h) h.states)
header_shaped h {l} {n} e f formed few =
    subst (λ (k : Label). Shaped (shape_for k h.states)) (sym e)
    (subst (λ (k : ℕ). Shaped (shape_for l k)) (sym f) (shaped_for l n formed few.0 few.1))

-- the edges and the last line
module _ (h : Header) (shaped : Shaped (shape_for (label_for h) h.states)) {shape : Shape} (same : shape ≡ shape_for (label_for h) h.states)
    (t : List ℕ) (start : ℕ) (rows rows' : List ℕ) {r : Step} (reads : ReadsRows shape t start rows r rows') where
  abbrev sh : Shape
  sh = shape_for (label_for h) h.states

  read : ReadsRows sh t start rows r rows'
  read = subst (λ (s : Shape). ReadsRows s t start rows r rows') same reads

  abbrev Edges : ℕ → ℕ → Step → Type 0
  Edges at n x = ReadsDrawn (FromEdges (label_for h) n) t at rows h x rows'

  taken : {x : Step} → r ≡ x → Finds (RowsPart sh) t start (rows_taken sh.letters rows' sh.states x)
  taken e = subst (λ (x : Step). Finds (RowsPart sh) t start (rows_taken sh.letters rows' sh.states x)) e read.found

  pub edges_stop : {p : ℕ} {x : Step} → r ≡ Err p → x ≡ Err p → Edges start h.states x
  edges_stop e told = subst (Edges start h.states) (sym told) (record {
    size = read.size;
    found = then_stops (RowsPart sh) (DrawingEnd (label_for h) h.states) t start (some_end (label_for h) h.states shaped) (taken e);
    rest = read.rest;
  })

  pub edges_end : {p : ℕ} → r ≡ Ok p → {x : Step} → x ≡ follow_at (bytes "}\n") t p → Edges start h.states x
  edges_end {p} e {x} is = record {
    size = read.size;
    found =
        then_goes (RowsPart sh) (DrawingEnd (label_for h) h.states) t start (unique_rows sh shaped) (taken e)
        (last x (subst (λ (y : Step). Finds (Word (bytes "}\n")) t p (word_taken y)) (sym is) (finds_word (bytes "}\n") t p tt)));
    rest = read.rest;
  }
    where
      f : Unit {0} → Drawn
      f _ = drawn_for h rows'

      last : (x : Step) → Finds (Word (bytes "}\n")) t p (word_taken x) → Finds (Through f (Word (bytes "}\n"))) t p (drawn_taken h rows' x)
      last (Ok q) found = through_took f (Word (bytes "}\n")) t p found
      last (Err q) found = through_stopped f (Word (bytes "}\n")) t p found

-- the nodes: at the place that is told stands a `0`
module _ (t : List ℕ) (start m k : ℕ) (l : m ≤ length (drop start t)) (x : NodesPart k (take m (drop start t))) where
  lines : List ℕ
  lines = in_turn node_line k

  text : take m (drop start t) ≡ lines ++ bytes "0"
  unfolding lines
  text = (nodes_text k _ x).2

  long : m ≡ length lines + 1
  long = sym (length-take-le m (drop start t) l) ∙ ap length text ∙ length-append lines (bytes "0")

  last-zero : (q : ℕ) → q + 1 ≡ start + m → (q < length t) × (get_or t q 0 ≡ 48)
  last-zero q e =
      let here : start + length lines ≡ q = omega (arith, long, e) in (
        omega (arith, length-drop start t, long, l, e),
        ap (λ (i : ℕ). get_or t i 0) (sym here)
            ∙ sym (get_or-drop start t (length lines) 0)
            ∙ sym (get_or-take m (drop start t) (length lines) 0 (omega (arith, long)))
            ∙ ap (λ (y : List ℕ). get_or y (length lines) 0) text
            ∙ get_or_at lines 48 [] 0 (length lines) refl,
      )

-- what nodes that were found are
NodesThere : List ℕ → Taken ℕ → Type 0
NodesThere t (took p n) = ((q : ℕ) → q + 1 ≡ p → (q < length t) × (get_or t q 0 ≡ 48)) × (1 ≤ n) × (n ≤ 255)
NodesThere t (stopped p) = Unit

nodes_there : (t : List ℕ) (start : ℕ) {r : Taken ℕ} → Finds NodesPart t start r → NodesThere t r
unfolding NodesThere
nodes_there t start (finds {n = m} {a = k} e l x) =
    let f = nodes_text k _ x in
    ((λ q is. last-zero t start m k l x q (is ∙ e)), f.0, f.1)
nodes_there t start (departs e h none) = tt

module _ (l : Label) (formed : LabelFormed l) (t : List ℕ) (start : ℕ) {r : Part} (read : Finds NodesPart t start (nodes_taken r)) where
  told : {x : Part} → r ≡ x → Finds NodesPart t start (nodes_taken x)
  told e = subst (λ (x : Part). Finds NodesPart t start (nodes_taken x)) e read

  pub nodes_stop : {p : ℕ} → r ≡ Err p → Finds (FromNodes l) t start (stopped p)
  nodes_stop e = stops_told NodesPart (λ n. After 48 (FromEdges l n)) t start (some_behind_nodes l formed) (told e)

  module _ {q n : ℕ} (e : r ≡ Ok (q, n)) where
    there : NodesThere t (took (q + 1) n)
    there = nodes_there t start (told e)

    pub nodes_few : (1 ≤ n) × (n ≤ 255)
    unfolding NodesThere
    nodes_few = (there.1, there.2)

    pub nodes_go : (h : Header) (rows rows' : List ℕ) {x : Step} → label_for h ≡ l → h.states ≡ n
        → ReadsDrawn (FromEdges (label_for h) h.states) t q rows h x rows' → ReadsDrawn (FromNodes l) t start rows h x rows'
    unfolding NodesThere
    nodes_go h rows rows' {x} same states edges =
        let shaped = shaped_for l n formed nodes_few.0 nodes_few.1 in
        let zero = there.0 q refl in
        let found : Finds (FromEdges l n) t q (drawn_taken h rows' x) =
        subst (λ (k : ℕ). Finds (FromEdges l k) t q (drawn_taken h rows' x)) states
        (subst (λ (m : Label). Finds (FromEdges m h.states) t q (drawn_taken h rows' x)) same edges.found) in
        record {
          size = edges.size;
          found =
              then_goes NodesPart (λ n. After 48 (FromEdges l n)) t start unique_nodes (told e)
              (finds_after 48 (FromEdges l n) (edges_begin l n shaped) (some_edges l n shaped) t q zero.0 zero.1 found);
          rest = edges.rest;
        }

-- where the text departs, that is what was read
pub stops_so : {L : Telling Drawn} {t : List ℕ} {start p : ℕ} {x : Result DrawingRead ℕ} (rows rows' : List ℕ) → x ≡ Err p → Finds L t start (stopped p)
    → Reads L t start rows x rows'
stops_so {L} {t} {start} rows rows' is found = subst (λ (x : Result DrawingRead ℕ). Reads L t start rows x rows') (sym is) found

-- the label
module _ (t : List ℕ) {r : Result LabelRead ℕ} (read : Finds LabelPart t 0 (label_taken r)) where
  given : {x : Result LabelRead ℕ} → r ≡ x → Finds LabelPart t 0 (label_taken x)
  given e = subst (λ (x : Result LabelRead ℕ). Finds LabelPart t 0 (label_taken x)) e read

  pub label_stop : {p : ℕ} → r ≡ Err p → Finds WholePart t 0 (stopped p)
  label_stop e = stops_told LabelPart FromNodes t 0 some_behind_label (given e)

  module _ (l : LabelRead) (e : r ≡ Ok l) where
    pub label_formed : LabelFormed (label_of l)
    label_formed = told_formed (given e)

    pub label_go : (rows rows' : List ℕ) (d : Result DrawingRead ℕ) → Reads (FromNodes (label_of l)) t l.next rows d rows'
        → Reads WholePart t 0 rows d rows'
    label_go rows rows' (Ok d) (nodes, up, target) = (
      record {
        size = nodes.size;
        found = then_goes LabelPart FromNodes t 0 unique_label (given e) nodes.found;
        rest = nodes.rest;
      },
      up,
      target,
    )
    label_go rows rows' (Err p) nodes = then_goes LabelPart FromNodes t 0 unique_label (given e) nodes

-- zeros everywhere
zero-at : (i : ℕ) → at (replicate (255 * stride) 0) i ≡ 0
zero-at i = by (dec_lt i (255 * stride))
  where
    by : Dec (i < 255 * stride) → at (replicate (255 * stride) 0) i ≡ 0
    by (yes l) = get_or-replicate {A = ℕ} (255 * stride) i 0 0 l
    by (no l) = get_or-eq_default (replicate (255 * stride) 0) 0 {n = i} (omega (arith, length-replicate {A = ℕ} (255 * stride) 0))

no_drawing : (t : List ℕ) {k : ℕ} → Longest (Any WholePart) t k × (Any WholePart t → ⊥) → (Drawing t → ⊥) × Longest Drawing t k
no_drawing t {k} (longest, none) = ((λ d. none (drawing_any t d)), longest_iff (Any WholePart) Drawing any_drawing drawing_any t k longest)

-- a refusal for the form has the place at which reading stopped
pub refused_at : {r : Result DrawingRead ℕ} {x : Result DrawingRead Refusal} {e : Refusal}
    → MatchResult r (λ d. x ≡ Ok d) (λ k. IsErrAnd x (λ y. y ≡ Refusal.NotOfTheForm k)) → x ≡ Err e
    → (k : ℕ) × (r ≡ Err k) × (e ≡ Refusal.NotOfTheForm k)
refused_at {r = Ok d} m is = absurd (cc)
refused_at {r = Err k} {x = Ok d} m is = absurd m
refused_at {r = Err k} {x = Err y} {e} m is = let same : y ≡ e = cc in (k, refl, sym same ∙ m)

-- what was read in the end, by a text's length; the rows were zeros before
module _ (t : List ℕ) (rows : List ℕ) {r : Result DrawingRead ℕ} (read : Reads WholePart t 0 (replicate (255 * stride) 0) r rows) where
  read_as : {x : Result DrawingRead ℕ} → r ≡ x → Reads WholePart t 0 (replicate (255 * stride) 0) x rows
  read_as e = subst (λ (x : Result DrawingRead ℕ). Reads WholePart t 0 (replicate (255 * stride) 0) x rows) e read

  pub read_stuck : {k : ℕ} → r ≡ Err k → (Drawing t → ⊥) × Longest Drawing t k
  read_stuck e = no_drawing t (whole_stopped WholePart t (read_as e))

  pub read_passed : (d : DrawingRead) → r ≡ Ok d → (d.next ≡ length t → ⊥) → (Drawing t → ⊥) × Longest Drawing t d.next
  read_passed d e more = no_drawing t (whole_passed WholePart t unique_whole (read_as e).0.found more)

  module _ {n : ℕ} (d : DrawingRead) (e : r ≡ Ok d) (all : d.next ≡ length t) (states : n ≡ d.header.states) where
    abbrev pub h : Header
    h = d.header

    drawn : ReadsDrawn WholePart t 0 (replicate (255 * stride) 0) d.header (Ok d.next) rows
    drawn = (read_as e).0

    absent : (s f : ℕ) → s < h.states → h.ups ≤ f → f < 16 → word rows s (access_letters + f) ≡ 0
    absent s f l m few =
        let letter : (s * stride + (access_letters + f)) % stride ≡ access_letters + f = omega arith in
        drawn.rest (s * stride + (access_letters + f)) (λ w. omega (arith, w.letter, letter)) ∙ zero-at (s * stride + (access_letters + f))

    machine : Canonical h rows × (t ≡ drawing_of h rows)
    machine = drawing_told h rows (read_as e).1 (read_as e).2 absent t (whole_told WholePart t drawn.found all)

    -- the front of the rows, which is written
    front : (s a : ℕ) → s < h.states → a < stride → word rows s a ≡ word (take (n * stride) rows) s a
    front s a l m = sym (get_or-take (n * stride) rows (s * stride + a) 0 (omega arith))

    pub read_whole : Canonical h (take (n * stride) rows) × (t ≡ drawing_of h (take (n * stride) rows))
    read_whole = (
      canonical_words h rows (take (n * stride) rows) front machine.0,
      machine.1 ∙ drawing_of_words h rows (take (n * stride) rows) machine.0.ups front,
    )
