-- The edges of a drawing, as parts of its text: the edges of a state tell the words of its row; all of them tell the rows. What a reader has read
-- of them into rows.
use Rattle.std.specs.Prelude.{ℕ, zero, suc, ◌+◌, ◌*◌, ◌/◌, ◌%◌, ◌≤◌, ◌<◌, ◌≡◌, List, [], ◌∷◌, ◌++◌, length, get_or, Ok, Err}
use Rattle.ground.specs.Bytes.{at}
use Rattle.operations.specs.Alphabet.{stride}
use Rattle.printing.specs.Turns.{in_turn}
use Rattle.texts.specs.Step.{Step}
use Rattle.texts.specs.Language.{Telling}
use Rattle.texts.specs.Telling.{Items, Taken, took, stopped, Finds}
use Rattle.image.specs.Image.{word}
use Rattle.drawing.specs.Drawing.{edge_line}
use Rattle.drawing_edges.specs.declared.Shape.{Shape}
use Rattle.drawing_edges.specs.Edges.{EdgePart, EdgeWord}

abbrev pub RowPart : Shape → ℕ → Telling (List ℕ)
RowPart sh state = Items (EdgePart sh state) sh.letters

abbrev pub RowsPart : Shape → Telling (List (List ℕ))
RowsPart sh = Items (RowPart sh) sh.states

-- the first n values of f
unfoldable pub in_order : {A : Type 0} → (ℕ → A) → ℕ → List A
in_order f zero = []
in_order f (suc n) = in_order f n ++ (f n ∷ [])

-- the words of a state in rows, and those of the first so many states
abbrev pub row_told : ℕ → List ℕ → ℕ → List ℕ
row_told letters rows state = in_order (word rows state) letters

abbrev pub rows_told : ℕ → List ℕ → ℕ → List (List ℕ)
rows_told letters rows states = in_order (row_told letters rows) states

-- rows of words that the edges of a machine may tell, and their text: line by line
pub record RowsAre (sh : Shape) (values : List (List ℕ)) (t : List ℕ) : Type 0 where
  pub states : length values ≡ sh.states
  pub letters : (s : ℕ) → s < sh.states → length (get_or values s []) ≡ sh.letters
  pub words : (s a : ℕ) → s < sh.states → a < sh.letters → EdgeWord sh a (at (get_or values s []) a)
  pub text : t ≡ in_turn (λ (s : ℕ). in_turn (λ (a : ℕ). edge_line s a (at (get_or values s []) a)) sh.letters) sh.states

-- what a step over the edges of a state has taken, and what one over the edges of so many states has, by the rows after it
abbrev pub row_taken : ℕ → List ℕ → ℕ → Step → Taken (List ℕ)
row_taken letters rows state (Ok p) = took p (row_told letters rows state)
row_taken letters rows state (Err p) = stopped p

abbrev pub rows_taken : ℕ → List ℕ → ℕ → Step → Taken (List (List ℕ))
rows_taken letters rows states (Ok p) = took p (rows_told letters rows states)
rows_taken letters rows states (Err p) = stopped p

-- a word of the first n states and of a letter of the machine
pub record Within (letters n i : ℕ) : Type 0 where
  pub state : i / stride < n
  pub letter : i % stride < letters

-- the edges of a state read into its row: only the words of its letters change
pub record ReadsRow (sh : Shape) (state : ℕ) (t : List ℕ) (start : ℕ) (rows : List ℕ) (r : Step) (rows' : List ℕ) : Type 0 where
  pub size : length rows' ≡ length rows
  pub found : Finds (RowPart sh state) t start (row_taken sh.letters rows' state r)
  pub rest : (i : ℕ) → (state * stride ≤ i → i < state * stride + sh.letters → ⊥) → at rows' i ≡ at rows i

-- the edges of all states: only the words of states and letters that the machine has change
pub record ReadsRows (sh : Shape) (t : List ℕ) (start : ℕ) (rows : List ℕ) (r : Step) (rows' : List ℕ) : Type 0 where
  pub size : length rows' ≡ length rows
  pub found : Finds (RowsPart sh) t start (rows_taken sh.letters rows' sh.states r)
  pub rest : (i : ℕ) → (Within sh.letters sh.states i → ⊥) → at rows' i ≡ at rows i
