-- The lines of the nodes: a node's line begins with a digit that is no zero, or is node 0's, so the `0` behind the last one tells that there are
-- no more. Assumes nothing.
use Rattle.std.proofs.Common.{Err}
use Prim.Native.Nat.{ℕ, zero, suc, ◌+◌, ◌≤◌, ◌<◌}
use mathlib.Core.Path.{◌≡◌, refl, sym, ap, ap₂, subst, ◌∙◌}
use mathlib.Core.List.{List, [], ◌∷◌, ◌++◌, append-nil, append_assoc}
use mathlib.Core.Logic.{inl, inr}
use native.Mathlib.Omega.{arith}
use native.Mathlib.Nat.{add-zero}
use native.Mathlib.Decide.{dec_lt}
use borrow.Author.Tests.{ne_eqb}
use lib.Dec.{T}
use lib.ListN.{length, take, drop, get_or, take-append-drop, get_or-eq_default}
use lib.Seq.{drop-cons, get_or-drop}
use Rattle.ground.specs.Bytes.{bytes}
use Rattle.texts.specs.Language.{Telling, Any, Some, Unique}
use Rattle.texts.specs.Pattern.{is_word, follow_at}
use Rattle.texts.specs.Telling.{Then, Word, Taken, took, stopped, Finds}
use Rattle.texts.proofs.Language.{seq_join}
use Rattle.texts.proofs.Pattern.{followed}
use Rattle.texts.proofs.Steps.{follow_over, follow_not}
use Rattle.texts.proofs.NumberPart.{word-append, decimal_word, first_digit}
use Rattle.texts.proofs.Telling.{unique_then, some_then, then_goes, then_stops, unique_through, some_through, through_took, through_stopped}
use Rattle.texts.proofs.Telling.{unique_either, some_either, either_first, either_second, unique_word, some_word}
use Rattle.printing.specs.Decimal.{decimal}
use Rattle.printing.specs.Turns.{in_turn}
use Rattle.drawing.specs.Drawing.{node_line}
use Rattle.drawing_nodes.specs.Nodes.{NodesEnd, NodesFrom, NodesPart}
use Rattle.drawing_label.proofs.Words.{word_found, word_stuck}

pub node_word : (n : ℕ) → T (is_word (node_line n))
node_word n = word-append (decimal n) (bytes ";\n") (decimal_word n) tt

-- a line and what is behind it
NodeThen : ℕ → ℕ → Telling ℕ
NodeThen left k = Then (Word (node_line k)) (λ _. NodesFrom left (suc k))

-- the first byte of a text that begins with others
first_byte : (x : List ℕ) (m b : ℕ) (ds : List ℕ) → take m x ≡ b ∷ ds → get_or x 0 0 ≡ b
first_byte x m b ds e = ap (λ (l : List ℕ). get_or l 0 0) (sym (take-append-drop m x) ∙ ap (λ (l : List ℕ). l ++ drop m x) e)

node_begins : (left k : ℕ) → 1 ≤ k → (n : ℕ) (x : List ℕ) → NodeThen left k n x → 49 ≤ get_or x 0 0
unfolding NodeThen
node_begins left k some n x (_, (m, lm, e, rest)) = by (first_digit k)
  where
    by : (b : ℕ) × (ds : List ℕ) × (decimal k ≡ b ∷ ds) × (48 ≤ b) × (b ≤ 57) × (1 ≤ k → 49 ≤ b) → 49 ≤ get_or x 0 0
    by (b, ds, is, low, high, more) =
        let first : get_or x 0 0 ≡ b = first_byte x m b (ds ++ bytes ";\n") (e ∙ ap (λ (l : List ℕ). l ++ bytes ";\n") is) in
        omega (arith, first, more some)

end_begins : (k n : ℕ) (x : List ℕ) → NodesEnd k n x → get_or x 0 0 ≡ 48
end_begins k n x (_, is, e) = ap (λ (l : List ℕ). get_or l 0 0) e

-- how many nodes there are is told by one beginning of a text at most, and some text tells it
unique_from : (left k : ℕ) → 1 ≤ k → Unique (NodesFrom left k)
unfolding NodesFrom NodeThen
unique_from zero k some = unique_through (λ _. k) (Word (bytes "0")) (unique_word (bytes "0"))
unique_from (suc left) k some =
    unique_either (NodeThen left k) (NodesEnd k) (λ b. 49 ≤ b) (λ b. b ≡ 48) (λ l. omega arith) (λ l. omega arith) (λ b l e. omega arith)
    (node_begins left k some) (end_begins k)
    (unique_then (Word (node_line k)) (λ _. NodesFrom left (suc k)) (unique_word (node_line k)) (λ _. unique_from left (suc k) (omega arith)))
    (unique_through (λ _. k) (Word (bytes "0")) (unique_word (bytes "0")))

some_from : (left k : ℕ) → Some (Any (NodesFrom left k))
unfolding NodesFrom NodeThen
some_from zero k = some_through (λ _. k) (Word (bytes "0")) (some_word (bytes "0"))
some_from (suc left) k =
    some_either (NodeThen left k) (NodesEnd k)
    (some_then (Word (node_line k)) (λ _. NodesFrom left (suc k)) (some_word (node_line k)) (λ _. some_from left (suc k)))

pub unique_nodes : Unique NodesPart
unique_nodes = unique_then (Word (node_line 0)) (λ _. NodesFrom 254 1) (unique_word (node_line 0)) (λ _. unique_from 254 1 (omega arith))

pub some_nodes : Some (Any NodesPart)
some_nodes = some_then (Word (node_line 0)) (λ _. NodesFrom 254 1) (some_word (node_line 0)) (λ _. some_from 254 1)

-- the `0` stands at a place, or does not
module _ (t : List ℕ) (here k : ℕ) where
  pub end_found : get_or t here 0 ≡ 48 → Finds (NodesEnd k) t here (took (here + 1) k)
  end_found is = by (dec_lt here (length t))
    where
      by : Dec (here < length t) → Finds (NodesEnd k) t here (took (here + 1) k)
      by (yes l) =
          let cons : drop here t ≡ bytes "0" ++ drop (suc here) t = drop-cons t here 0 l ∙ ap (λ (b : ℕ). b ∷ drop (suc here) t) is in
          through_took (λ _. k) (Word (bytes "0")) t here
          (word_found (bytes "0") t here tt refl (followed (bytes "0") t (bytes "0") (drop (suc here) t) here cons (tt, tt)))
      by (no l) =
          let none : get_or t here 0 ≡ 0 = get_or-eq_default t 0 (omega arith) in
          absurd (omega arith)

  pub end_stuck : (get_or t here 0 ≡ 48 → ⊥) → Finds (NodesEnd k) t here (stopped here)
  end_stuck other = through_stopped (λ _. k) (Word (bytes "0")) t here (word_stuck (bytes "0") t here tt refl (by (dec_lt here (length t))))
    where
      by : Dec (here < length t) → follow_at (bytes "0") t here ≡ Err here
      by (yes l) = follow_not (bytes "0") t 0 here (omega arith) l (ne_eqb (get_or t here 0) 48 other)
      by (no l) = follow_over (bytes "0") t 0 here (omega arith) (omega arith)

  here_first : get_or (drop here t) 0 0 ≡ get_or t here 0
  here_first = get_or-drop here t 0 0 ∙ ap (λ (i : ℕ). get_or t i 0) (add-zero here)

  -- the nodes are over where it stands
  pub nodes_over : (left : ℕ) → 1 ≤ k → get_or t here 0 ≡ 48 → {r : Taken ℕ} → Finds (NodesEnd k) t here r → Finds (NodesFrom left k) t here r
  unfolding NodesFrom NodeThen
  nodes_over zero some is h = h
  nodes_over (suc left) some is h =
      either_second (NodeThen left k) (NodesEnd k) t here (λ b. 49 ≤ b) (λ l. omega arith) (node_begins left k some)
      (λ l. omega (arith, here_first)) h

  -- and where no more may come
  pub no_more : (left : ℕ) → left ≡ 0 → {r : Taken ℕ} → Finds (NodesEnd k) t here r → Finds (NodesFrom left k) t here r
  unfolding NodesFrom
  no_more zero none h = h
  no_more (suc left) none h = absurd (omega arith)

  -- where it does not, a line does, or the text departs
  module _ (left : ℕ) (other : get_or t here 0 ≡ 48 → ⊥) {p : ℕ} where
    pub nodes_more : Finds (Word (node_line k)) t here (took p tt) → {r : Taken ℕ} → Finds (NodesFrom left (suc k)) t p r
        → Finds (NodesFrom (suc left) k) t here r
    unfolding NodesFrom NodeThen
    nodes_more w h =
        either_first (NodeThen left k) (NodesEnd k) t here (λ b. b ≡ 48) (λ e. omega arith) (end_begins k) (λ e. other (sym here_first ∙ e))
        (then_goes (Word (node_line k)) (λ _. NodesFrom left (suc k)) t here (unique_word (node_line k)) w h)

    pub nodes_stop : Finds (Word (node_line k)) t here (stopped p) → Finds (NodesFrom (suc left) k) t here (stopped p)
    unfolding NodesFrom NodeThen
    nodes_stop w =
        either_first (NodeThen left k) (NodesEnd k) t here (λ b. b ≡ 48) (λ e. omega arith) (end_begins k) (λ e. other (sym here_first ∙ e))
        (then_stops (Word (node_line k)) (λ _. NodesFrom left (suc k)) t here (λ _. some_from left (suc k)) w)

-- all the nodes, from the first line on
module _ (t : List ℕ) (at : ℕ) {p : ℕ} where
  pub nodes_go : Finds (Word (node_line 0)) t at (took p tt) → {r : Taken ℕ} → Finds (NodesFrom 254 1) t p r → Finds NodesPart t at r
  nodes_go w h = then_goes (Word (node_line 0)) (λ _. NodesFrom 254 1) t at (unique_word (node_line 0)) w h

  pub nodes_none : Finds (Word (node_line 0)) t at (stopped p) → Finds NodesPart t at (stopped p)
  nodes_none w = then_stops (Word (node_line 0)) (λ _. NodesFrom 254 1) t at (λ _. some_from 254 1) w

one_on : (k d : ℕ) → suc k + d ≡ k + suc d
one_on k d = omega arith

-- the lines of d nodes from node k on
lines_from : ℕ → ℕ → List ℕ
lines_from k zero = []
lines_from k (suc d) = node_line k ++ lines_from (suc k) d

lines_turn : (k d : ℕ) → in_turn node_line k ++ lines_from k d ≡ in_turn node_line (k + d)
unfolding lines_from in_turn
lines_turn k zero = append-nil (in_turn node_line k) ∙ ap (in_turn node_line) (sym (add-zero k))
lines_turn k (suc d) =
    sym (append_assoc (in_turn node_line k) (node_line k) (lines_from (suc k) d)) ∙ lines_turn (suc k) d ∙ ap (in_turn node_line) (one_on k d)

-- what the texts of the nodes are
from_text : (left k n : ℕ) (t : List ℕ) → NodesFrom left k n t → (d : ℕ) × (d ≤ left) × (n ≡ k + d) × (t ≡ lines_from k d ++ bytes "0")
unfolding NodesFrom lines_from
from_text zero k n t (_, is, e) = (0, omega arith, sym is ∙ sym (add-zero k), e)
from_text (suc left) k n t (inr (_, is, e)) = (0, omega arith, sym is ∙ sym (add-zero k), e)
from_text (suc left) k n t (inl (_, (m, lm, e, rest))) = by (from_text left (suc k) n (drop m t) rest)
  where
    by : (d : ℕ) × (d ≤ left) × (n ≡ suc k + d) × (drop m t ≡ lines_from (suc k) d ++ bytes "0")
        → (d : ℕ) × (d ≤ suc left) × (n ≡ k + d) × (t ≡ lines_from k d ++ bytes "0")
    by (d, ld, is, f) = (
      suc d,
      omega arith,
      is ∙ one_on k d,
      sym (take-append-drop m t) ∙ ap₂ (λ (x y : List ℕ). x ++ y) e f ∙ sym (append_assoc (node_line k) (lines_from (suc k) d) (bytes "0")),
    )

text_from : (left k d : ℕ) → d ≤ left → NodesFrom left k (k + d) (lines_from k d ++ bytes "0")
unfolding NodesFrom lines_from
text_from zero k zero l = (tt, sym (add-zero k), refl)
text_from zero k (suc d) l = absurd (omega arith)
text_from (suc left) k zero l = inr (tt, sym (add-zero k), refl)
text_from (suc left) k (suc d) l =
    subst (λ (n : ℕ). NodesFrom (suc left) k n (lines_from k (suc d) ++ bytes "0")) (one_on k d)
    (subst (λ (x : List ℕ). NodesFrom (suc left) k (suc k + d) x) (sym (append_assoc (node_line k) (lines_from (suc k) d) (bytes "0")))
    (inl (
      tt,
      seq_join (Word (node_line k) tt) (NodesFrom left (suc k) (suc k + d)) (node_line k) (lines_from (suc k) d ++ bytes "0") refl
          (text_from left (suc k) d (omega arith)),
    )))

-- the lines of n nodes in turn, and the `0` behind them
first_and_more : (d : ℕ) → node_line 0 ++ lines_from 1 d ≡ in_turn node_line (1 + d)
unfolding in_turn
first_and_more d = lines_turn 1 d

pub nodes_text : (n : ℕ) (t : List ℕ) → NodesPart n t → (1 ≤ n) × (n ≤ 255) × (t ≡ in_turn node_line n ++ bytes "0")
nodes_text n t (_, (m, lm, e, rest)) = by (from_text 254 1 n (drop m t) rest)
  where
    by : (d : ℕ) × (d ≤ 254) × (n ≡ 1 + d) × (drop m t ≡ lines_from 1 d ++ bytes "0") → (1 ≤ n) × (n ≤ 255) × (t ≡ in_turn node_line n ++ bytes "0")
    by (d, ld, is, f) = (
      omega arith,
      omega arith,
      sym (take-append-drop m t) ∙ ap₂ (λ (x y : List ℕ). x ++ y) e f ∙ sym (append_assoc (node_line 0) (lines_from 1 d) (bytes "0"))
          ∙ ap (λ (x : List ℕ). x ++ bytes "0") (first_and_more d ∙ ap (in_turn node_line) (sym is)),
    )

pub text_nodes : (n : ℕ) → 1 ≤ n → n ≤ 255 → NodesPart n (in_turn node_line n ++ bytes "0")
text_nodes zero some few = absurd (omega arith)
text_nodes (suc d) some few =
    let is : 1 + d ≡ suc d = omega arith in
    subst (λ (k : ℕ). NodesPart k (in_turn node_line k ++ bytes "0")) is
    (subst (λ (x : List ℕ). NodesPart (1 + d) (x ++ bytes "0")) (first_and_more d)
    (subst (NodesPart (1 + d)) (sym (append_assoc (node_line 0) (lines_from 1 d) (bytes "0"))) (
      tt,
      seq_join (Word (node_line 0) tt) (NodesFrom 254 1 (1 + d)) (node_line 0) (lines_from 1 d ++ bytes "0") refl
          (text_from 254 1 d (omega arith)),
    )))
