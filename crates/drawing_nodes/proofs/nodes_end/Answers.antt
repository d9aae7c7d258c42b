-- `nodes_end` meets its contract: the `0` stands there or it does not. Assumes nothing.
use mathlib.Core.Path.{sym, ◌∙◌}
use Rattle.drawing_nodes.proofs.NodeLines.{end_found, end_stuck}
use Rattle.drawing_nodes.proofs.nodes_end.Goals as goal

pub returns-then-byte_at-eq48 : goal.returns-then-byte_at-eq48
returns-then-byte_at-eq48 c =
    let a = c.args in
    end_found a.text.now a.at a.number (sym c.byte_at.ensures ∙ c.if-byte_at-eq48.true)

pub returns : goal.returns
returns c =
    let a = c.args in
    end_stuck a.text.now a.at a.number (λ is. c.if-byte_at-eq48.false (c.byte_at.ensures ∙ is))
