-- `name` meets its contract: each `return` by the tests that led there. Assumes nothing.
use mathlib.Core.Path.{sym}
use native.Mathlib.Omega.{arith}
use Rattle.texts.proofs.Steps.{name_fits, name_none, name_over, name_other, name_ends}
use Rattle.texts.proofs.name.Goals.{then-text-past-via-then-text-past, then-text-past-via-else-text-past+then-text-past-2}
use Rattle.texts.proofs.name.Goals as goal

pub returns-then-n-eq0 : goal.returns-then-n-eq0
returns-then-n-eq0 c =
    let a = c.args in
    sym (name_none a.end a.text.now a.at _ c.name_bytes-n.ensures c.if-n-eq0.true)

pub overflow_add-past : goal.overflow_add-past
overflow_add-past c =
    let a = c.args in
    let n = c.name_bytes-n in
    omega (arith, name_fits a.end a.text.now a.at n.result n.ensures (omega arith))

pub returns-then-text-past : goal.returns-then-text-past
returns-then-text-past c =
    let a = c.args in
    let n = c.name_bytes-n.ensures in
    let some = c.if-n-eq0.false in
    elim c.then-text-past.branch [
      | then-text-past-via-then-text-past w ↦ sym (name_over a.end a.text.now a.at _ n some w.if-text-past.true)
      | then-text-past-via-else-text-past+then-text-past-2 w ↦
          sym (name_other a.end a.text.now a.at _ n some w.if-text-past.false w.if-text-past-2.true)
    ]

pub returns : goal.returns
returns c =
    let a = c.args in
    let more = c.if-text-past.false in
    sym (name_ends a.end a.text.now a.at _ c.name_bytes-n.ensures c.if-n-eq0.false more c.if-text-past-2.false)
