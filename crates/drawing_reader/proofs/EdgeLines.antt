-- The texts of rows of edges are the lines of a drawing, state by state and letter by letter: what is so of each part of a row is so of the row,
-- by one part more at its end. Assumes nothing.
use Prim.Native.Nat.{ℕ, zero, suc, ◌≤◌, ◌<◌}
use mathlib.Core.Path.{◌≡◌, refl, sym, ap, ap₂, subst, ◌∙◌}
use mathlib.Core.Bool.{Bool, true, false}
use mathlib.Core.List.{List, [], ◌∷◌, ◌++◌, append_assoc}
use native.Mathlib.Omega.{arith}
use native.Mathlib.Decide.{ℕ_discrete}
use borrow.Author.Tests.{lt-ltb, le-ltb}
use lib.ListN.{length, take, drop, get_or, length-append, take-append-drop, get_or-append}
use lib.Seq.{get_or_at, ext_get_or}
use Rattle.ground.specs.Bytes.{at, bytes}
use Rattle.operations.specs.Alphabet.{access_letters}
use Rattle.printing.specs.Turns.{in_turn}
use Rattle.printing.proofs.Decimals.{one_digit}
use Rattle.printing.proofs.Turns.{in_turn_same}
use Rattle.texts.specs.Language.{Telling}
use Rattle.texts.specs.Telling.{Through, Items}
use Rattle.texts.proofs.Language.{seq_join}
use Rattle.image.specs.Image.{word}
use Rattle.drawing.specs.Drawing.{leads_to, edge_label, edge_line, state_edges}
use Rattle.drawing_edges.specs.declared.Shape.{Shape}
use Rattle.drawing_edges.specs.Edges.{EdgePart, WordOf, EdgeWord, Shaped}
use Rattle.drawing_reader.specs.inner.Rows.{RowPart, RowsPart, in_order, row_told, rows_told, RowsAre}
use Rattle.drawing_edges.proofs.EdgeTexts.{edge_told, edge_written}

-- values in order
module _ {A : Type 0} (f : ℕ → A) (d : A) where
  pub length_in_order : (n : ℕ) → length (in_order f n) ≡ n
  unfolding in_order
  length_in_order zero = refl
  length_in_order (suc n) = length-append (in_order f n) (f n ∷ []) ∙ omega (arith, length_in_order n)

  pub at_in_order : (n i : ℕ) → i < n → get_or (in_order f n) i d ≡ f i
  unfolding in_order
  at_in_order zero i l = absurd (omega arith)
  at_in_order (suc n) i l = by (ℕ_discrete i n) (at_in_order n i)
    where
      by : Dec (i ≡ n) → (i < n → get_or (in_order f n) i d ≡ f i) → get_or (in_order f n ++ (f n ∷ [])) i d ≡ f i
      by (yes e) rest = get_or_at (in_order f n) (f n) [] d i (length_in_order n ∙ sym e) ∙ ap f (sym e)
      by (no ne) rest = get_or-append (in_order f n) (f n ∷ []) d i (omega (arith, length_in_order n)) ∙ rest (omega arith)

pub in_order_all : {A : Type 0} (d : A) (values : List A) (f : ℕ → A) (n : ℕ) → length values ≡ n → ((i : ℕ) → i < n → get_or values i d ≡ f i)
    → in_order f n ≡ values
in_order_all d values f n e h =
    ext_get_or d (in_order f n) values (length_in_order f d n ∙ sym e)
    (λ i l. at_in_order f d n i (omega (arith, length_in_order f d n)) ∙ sym (h i (omega (arith, length_in_order f d n))))

-- a row of parts, each of which tells a value that is good, by its line
module _ {A : Type 0} (d : A) (Good : ℕ → A → Type 0) (line : ℕ → A → List ℕ) where
  record Lines (n : ℕ) (values : List A) (t : List ℕ) : Type 0 where
    size : length values ≡ n
    good : (i : ℕ) → i < n → Good i (get_or values i d)
    text : t ≡ in_turn (λ (i : ℕ). line i (get_or values i d)) n

  module _ (item : ℕ → Telling A) where
    items_told : ((i : ℕ) (a : A) (x : List ℕ) → item i a x → Good i a × (x ≡ line i a)) → (n : ℕ) (values : List A) (t : List ℕ)
        → Items item n values t → Lines n values t
    unfolding in_turn
    items_told h zero values t (e, f) = record { size = ap length e; good = λ i l. absurd (omega arith); text = f }
    items_told h (suc n) values t (before, (k, lk, b, (a, e, it))) = by (items_told h n before (take k t) b) (h n a (drop k t) it)
      where
        by : Lines n before (take k t) → Good n a × (drop k t ≡ line n a) → Lines (suc n) values t
        by so_far (good, is) = subst (λ (v : List A). Lines (suc n) v t) e made
          where
            all : List A
            all = before ++ (a ∷ [])

            older : (i : ℕ) → i < n → get_or all i d ≡ get_or before i d
            older i l = get_or-append before (a ∷ []) d i (omega (arith, so_far.size))

            newest : get_or all n d ≡ a
            newest = get_or_at before a [] d n so_far.size

            each : (i : ℕ) → i < suc n → Dec (i ≡ n) → Good i (get_or all i d)
            each i l (yes is) = subst (λ (j : ℕ). Good j (get_or all j d)) (sym is) (subst (Good n) (sym newest) good)
            each i l (no ne) = subst (Good i) (sym (older i (omega arith))) (so_far.good i (omega arith))

            made : Lines (suc n) all t
            made = record {
              size = length-append before (a ∷ []) ∙ omega (arith, so_far.size);
              good = λ i l. each i l (ℕ_discrete i n);
              text =
                  sym (take-append-drop k t)
                  ∙ ap₂ (λ (x y : List ℕ). x ++ y)
                  (so_far.text
                  ∙ in_turn_same (λ (i : ℕ). line i (get_or before i d)) (λ (i : ℕ). line i (get_or all i d)) n (λ i l. ap (line i) (sym (older i l))))
                  (is ∙ ap (line n) (sym newest));
            }

items_written : {A : Type 0} (item : ℕ → Telling A) (f : ℕ → A) (text : ℕ → List ℕ) (n : ℕ) → ((i : ℕ) → i < n → item i (f i) (text i))
    → Items item n (in_order f n) (in_turn text n)
unfolding in_order in_turn
items_written item f text zero h = (refl, refl)
items_written item f text (suc n) h = (
  in_order f n,
  seq_join (Items item n (in_order f n)) (Through (λ a. in_order f n ++ (a ∷ [])) (item n) (in_order f n ++ (f n ∷ []))) (in_turn text n) (text n)
      (items_written item f text n (λ i l. h i (omega arith))) (f n, refl, h n (omega arith)),
)

-- the words of an access, and those of a fence
module _ (sh : Shape) (letter w : ℕ) where
  pub access_word : letter < access_letters → EdgeWord sh letter w → WordOf true sh w
  access_word l = subst (λ (q : Bool). WordOf q sh w) (lt-ltb letter access_letters l)

  pub word_access : letter < access_letters → WordOf true sh w → EdgeWord sh letter w
  word_access l = subst (λ (q : Bool). WordOf q sh w) (sym (lt-ltb letter access_letters l))

  pub fence_word : access_letters ≤ letter → EdgeWord sh letter w → WordOf false sh w
  fence_word l = subst (λ (q : Bool). WordOf q sh w) (le-ltb letter access_letters l)

  pub word_fence : access_letters ≤ letter → WordOf false sh w → EdgeWord sh letter w
  word_fence l = subst (λ (q : Bool). WordOf q sh w) (sym (le-ltb letter access_letters l))

-- texts in turn begin as the first of them does
turn_first : (text : ℕ → List ℕ) (n : ℕ) → 1 ≤ n → (rest : List ℕ) × (in_turn text n ≡ text 0 ++ rest)
unfolding in_turn
turn_first text zero l = absurd (omega arith)
turn_first text (suc zero) l = ([], nil-left (text 0))
  where
    nil-left : (x : List ℕ) → x ≡ x ++ []
    nil-left [] = refl
    nil-left (b ∷ x) = ap (λ (y : List ℕ). b ∷ y) (nil-left x)
turn_first text (suc (suc n)) l = by (turn_first text (suc n) (omega arith))
  where
    by : (rest : List ℕ) × (in_turn text (suc n) ≡ text 0 ++ rest) → (rest : List ℕ) × (in_turn text (suc n) ++ text (suc n) ≡ text 0 ++ rest)
    by (rest, e) = (rest ++ text (suc n), ap (λ (x : List ℕ). x ++ text (suc n)) e ∙ append_assoc (text 0) rest (text (suc n)))

first_line : (w : ℕ) → (rest : List ℕ) × (edge_line 0 0 w ≡ 48 ∷ rest)
first_line w =
    let rest : List ℕ = bytes " -> " ++ (leads_to w ++ (bytes " [label=\"" ++ (edge_label 0 w ++ bytes "\"];\n"))) in
    (rest, ap (λ (x : List ℕ). x ++ rest) (one_digit 0 (omega arith)))

module _ (sh : Shape) (shaped : Shaped sh) where
  -- the words of a row that are good, and its text
  GoodRow : ℕ → List ℕ → Type 0
  GoodRow state row = (length row ≡ sh.letters) × ((a : ℕ) → a < sh.letters → EdgeWord sh a (at row a))

  row_text : ℕ → List ℕ → List ℕ
  row_text state row = in_turn (λ (a : ℕ). edge_line state a (at row a)) sh.letters

  row_told_lem : (state : ℕ) (row x : List ℕ) → RowPart sh state row x → GoodRow state row × (x ≡ row_text state row)
  unfolding GoodRow row_text
  row_told_lem state row x h =
      let told = items_told 0 (EdgeWord sh) (edge_line state) (EdgePart sh state) (λ a w y. edge_told sh shaped state a w y) sh.letters row x h in
      ((told.size, told.good), told.text)

  row_written : (state : ℕ) (f : ℕ → ℕ) → ((a : ℕ) → a < sh.letters → EdgeWord sh a (f a))
      → RowPart sh state (in_order f sh.letters) (in_turn (λ (a : ℕ). edge_line state a (f a)) sh.letters)
  row_written state f good =
      items_written (EdgePart sh state) f (λ (a : ℕ). edge_line state a (f a)) sh.letters (λ a l. edge_written sh shaped state a (f a) (good a l))

  -- For readers: the texts of all edges are the lines of the words that an image may have, in turn.
  pub rows_told_lem : (values : List (List ℕ)) (t : List ℕ) → RowsPart sh values t → RowsAre sh values t
  unfolding GoodRow row_text
  rows_told_lem values t h = made (items_told [] GoodRow row_text (RowPart sh) row_told_lem sh.states values t h)
    where
      made : Lines [] GoodRow row_text sh.states values t → RowsAre sh values t
      made told = record {
        states = told.size;
        letters = λ s l. (told.good s l).0;
        words = λ s a l. (told.good s l).1 a;
        text = told.text;
      }

  pub rows_written : (rows : List ℕ) → ((s a : ℕ) → s < sh.states → a < sh.letters → EdgeWord sh a (word rows s a))
      → RowsPart sh (rows_told sh.letters rows sh.states) (in_turn (state_edges sh.letters rows) sh.states)
  rows_written rows good =
      items_written (RowPart sh) (row_told sh.letters rows) (state_edges sh.letters rows) sh.states
      (λ s l. row_written s (word rows s) (λ a k. good s a l k))

  -- the rows that were read, and what they were read from
  pub rows_of : (rows t : List ℕ) → RowsPart sh (rows_told sh.letters rows sh.states) t
      → ((s a : ℕ) → s < sh.states → a < sh.letters → EdgeWord sh a (word rows s a)) × (t ≡ in_turn (state_edges sh.letters rows) sh.states)
  rows_of rows t h = by (rows_told_lem values t h)
    where
      values : List (List ℕ)
      values = rows_told sh.letters rows sh.states

      value : (s a : ℕ) → s < sh.states → a < sh.letters → at (get_or values s []) a ≡ word rows s a
      value s a l k =
          ap (λ (row : List ℕ). at row a) (at_in_order (row_told sh.letters rows) [] sh.states s l)
          ∙ at_in_order (word rows s) 0 sh.letters a k

      by : RowsAre sh values t
          → ((s a : ℕ) → s < sh.states → a < sh.letters → EdgeWord sh a (word rows s a)) × (t ≡ in_turn (state_edges sh.letters rows) sh.states)
      by are = (
        (λ s a l k. subst (EdgeWord sh a) (value s a l k) (are.words s a l k)),
        are.text
            ∙ in_turn_same (λ (s : ℕ). in_turn (λ (a : ℕ). edge_line s a (at (get_or values s []) a)) sh.letters) (state_edges sh.letters rows)
            sh.states
            (λ s l.
            in_turn_same (λ (a : ℕ). edge_line s a (at (get_or values s []) a)) (λ (a : ℕ). edge_line s a (word rows s a)) sh.letters
            (λ a k. ap (edge_line s a) (value s a l k))),
      )

  -- they begin with the number of the first state
  pub rows_begin : 1 ≤ sh.letters → (values : List (List ℕ)) (t : List ℕ) → RowsPart sh values t → (y : List ℕ) × (t ≡ 48 ∷ y)
  rows_begin some values t h =
      let line : ℕ → ℕ → List ℕ = λ s a. edge_line s a (at (get_or values s []) a) in
      let states = turn_first (λ (s : ℕ). in_turn (line s) sh.letters) sh.states shaped.some in
      let letters = turn_first (line 0) sh.letters some in
      let first = first_line (at (get_or values 0 []) 0) in (
        (first.0 ++ letters.0) ++ states.0,
        (rows_told_lem values t h).text ∙ states.1 ∙ ap (λ (x : List ℕ). x ++ states.0) (letters.1 ∙ ap (λ (x : List ℕ). x ++ letters.0) first.1),
      )
