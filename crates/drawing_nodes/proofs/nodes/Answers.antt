use Prim.Native.Nat.{ℕ, suc, ◌+◌, ◌-◌, ◌<◌}
use mathlib.Core.Path.{◌≡◌, sym, subst, ◌∙◌}
use mathlib.Core.List.{List}
use borrow.Author.Rules.{rules}
use native.Mathlib.Numerals.{add-one}
use native.Mathlib.Omega.{arith}
use lib.ListN.{get_or}
use Rattle.texts.specs.Telling.{Word, Taken, took, stopped, Finds}
use Rattle.drawing.specs.Drawing.{node_line}
use Rattle.drawing_nodes.specs.Nodes.{NodesFrom, NodesEnd, nodes_taken}
use Rattle.drawing_label.proofs.Words.{word_found, word_stuck}
use Rattle.drawing_nodes.proofs.NodeLines.{node_word, nodes_go, nodes_none, end_found, nodes_over, nodes_more, nodes_stop, no_more}
use Rattle.drawing_nodes.proofs.nodes.Goals as goal

-- one line fewer is left
module _ (t : List ℕ) (here k : ℕ) (l : k < 255) (other : get_or t here 0 ≡ 48 → ⊥) where
  left : suc (255 - (k + 1)) ≡ 255 - k
  left = omega arith

  more : {p : ℕ} → Finds (Word (node_line k)) t here (took p tt) → {r : Taken ℕ} → Finds (NodesFrom (255 - (k + 1)) (k + 1)) t p r
      → Finds (NodesFrom (255 - k) k) t here r
  more {p} w {r} h =
      subst (λ (n : ℕ). Finds (NodesFrom n k) t here r) left
      (nodes_more t here k (255 - (k + 1)) other w (subst (λ (n : ℕ). Finds (NodesFrom (255 - (k + 1)) n) t p r) (add-one k) h))

  stop : {p : ℕ} → Finds (Word (node_line k)) t here (stopped p) → Finds (NodesFrom (255 - k) k) t here (stopped p)
  stop {p} w = subst (λ (n : ℕ). Finds (NodesFrom n k) t here (stopped p)) left (nodes_stop t here k (255 - (k + 1)) other w)

pub returns-in_err-here : goal.returns-in_err-here
returns-in_err-here c =
    let t = c.args.text.now in
    let none = nodes_none t c.args.at (word_stuck (node_line 0) t c.args.at (node_word 0) c.follow_decimal.ensures c.in_err-here.was) in
    search (rules, none)

pub loop-number-init : goal.loop-number-init
loop-number-init c =
    let t = c.args.text.now in
    let word = word_found (node_line 0) t c.args.at (node_word 0) c.follow_decimal.ensures c.in_ok-here.was in (
      omega arith,
      omega arith,
      (λ r h. nodes_go t c.args.at word h),
    )

pub returns-then-byte_at-eq48 : goal.returns-then-byte_at-eq48
returns-then-byte_at-eq48 c =
    let l = c.loop-number in
    let t = c.args.text.now in
    let zero = sym c.byte_at.ensures ∙ c.if-byte_at-eq48.true in
    l.invariant.2 _ (nodes_over t l.here l.number (255 - l.number) l.invariant.0 zero (end_found t l.here l.number zero))

pub returns-in_err-here-2 : goal.returns-in_err-here-2
returns-in_err-here-2 c =
    let l = c.loop-number in
    let t = c.args.text.now in
    let none = l.invariant.2 _ (stop t l.here l.number c.loop-number-test.true (λ is. c.if-byte_at-eq48.false (c.byte_at.ensures ∙ is))
    (word_stuck (node_line l.number) t l.here (node_word l.number) {p = c.in_err-here-2.field-0.0} c.follow_decimal-in-loop-number.ensures (search rules))) in
    search (rules, none)

pub loop-number-preserved : goal.loop-number-preserved
loop-number-preserved c =
    let l = c.loop-number in
    let t = c.args.text.now in
    let word = word_found (node_line l.number) t l.here (node_word l.number) c.follow_decimal-in-loop-number.ensures (search rules) in (
      omega arith,
      omega arith,
      (λ r h. l.invariant.2 r (more t l.here l.number c.loop-number-test.true
          (λ is. c.if-byte_at-eq48.false (c.byte_at.ensures ∙ is)) word h)),
    )

pub returns : goal.returns
returns c =
    let l = c.loop-number in
    let t = c.args.text.now in
    let last : 255 ≡ l.number = omega arith in
    let end = subst (λ (n : ℕ). Finds (NodesEnd n) t l.here (nodes_taken c.nodes_end.result)) last c.nodes_end.ensures in
    l.invariant.2 _ (no_more t l.here l.number (255 - l.number) (omega arith) end)
