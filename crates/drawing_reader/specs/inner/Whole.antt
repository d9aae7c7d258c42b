-- The whole of a drawing as one part of a text: the label, the nodes up to the `0` of the first edge, and the edges from that `0` on. That its
-- texts are the drawings is proved in proofs/Whole.
use Rattle.std.specs.Prelude.{ℕ, ◌*◌, ◌/◌, ◌%◌, ◌≡◌, List, [], length, get_or, Result, Ok, Err}
use Rattle.ground.specs.Bytes.{at, bytes}
use Rattle.operations.specs.Alphabet.{letters_with, stride}
use Rattle.texts.specs.Step.{Step}
use Rattle.texts.specs.Language.{Telling}
use Rattle.texts.specs.Telling.{Then, Through, After, Word, Taken, took, stopped, Finds}
use Rattle.image.specs.declared.machine.Header.{Header}
use Rattle.image.specs.Image.{listed}
use Rattle.drawing_edges.specs.declared.Shape.{Shape}
use Rattle.drawing_label.specs.Label.{Label, LabelPart, field, label_for, Fielded}
use Rattle.drawing_reader.specs.declared.DrawingRead.{DrawingRead}
use Rattle.drawing_nodes.specs.Nodes.{NodesPart}
use Rattle.drawing_reader.specs.inner.Rows.{RowsPart, rows_told, Within}

-- what a drawing tells: its label, how many states there are, and the words of each
pub record Drawn : Type 0 where
  pub label : Label
  pub states : ℕ
  pub words : List (List ℕ)

abbrev pub shape_for : Label → ℕ → Shape
shape_for l n = record { states = n; letters = letters_with l.ups; targets = l.targets }

-- the parts of a drawing from its end to its start, each with what was told before it
abbrev pub DrawingEnd : Label → ℕ → List (List ℕ) → Telling Drawn
DrawingEnd l n words = Through (λ _. record { label = l; states = n; words = words }) (Word (bytes "}\n"))

abbrev pub FromEdges : Label → ℕ → Telling Drawn
FromEdges l n = Then (RowsPart (shape_for l n)) (DrawingEnd l n)

abbrev pub FromNodes : Label → Telling Drawn
FromNodes l = Then NodesPart (λ n. After 48 (FromEdges l n))

abbrev pub WholePart : Telling Drawn
WholePart = Then LabelPart FromNodes

-- the machine that was told: its header, and its rows, where the words that a state has not are 0
abbrev pub header_for : Label → ℕ → Header
header_for l n = record {
  way = l.way;
  states = n;
  ups = l.ups;
  targets = l.targets;
  upstream = field l.upstream;
  target = field l.target;
}

unfoldable pub rows_for : ℕ → List (List ℕ) → List ℕ
rows_for n words = listed (n * stride) (λ (j : ℕ). at (get_or words (j / stride) []) (j % stride))

-- what a machine tells when it is drawn
abbrev pub drawn_for : Header → List ℕ → Drawn
drawn_for h rows = record { label = label_for h; states = h.states; words = rows_told (letters_with h.ups) rows h.states }

-- what a step over a drawing has taken, by the header and the rows after it
abbrev pub drawn_taken : Header → List ℕ → Step → Taken Drawn
drawn_taken h rows (Ok p) = took p (drawn_for h rows)
drawn_taken h rows (Err p) = stopped p

-- a part of a drawing read into rows: only the words of states and letters that the machine has change
pub record ReadsDrawn (L : Telling Drawn) (t : List ℕ) (start : ℕ) (rows : List ℕ) (h : Header) (r : Step) (rows' : List ℕ) : Type 0 where
  pub size : length rows' ≡ length rows
  pub found : Finds L t start (drawn_taken h rows' r)
  pub rest : (i : ℕ) → (Within (letters_with h.ups) h.states i → ⊥) → at rows' i ≡ at rows i

-- the same where what was read is told, or the place at which the text departs from the part; the names that were read fill their fields
abbrev pub Reads : Telling Drawn → List ℕ → ℕ → List ℕ → Result DrawingRead ℕ → List ℕ → Type 0
Reads L t start rows (Ok d) rows' = ReadsDrawn L t start rows d.header (Ok d.next) rows' × Fielded d.header.upstream × Fielded d.header.target
Reads L t start rows (Err p) rows' = Finds L t start (stopped p)
