use Prim.Native.Nat.{ℕ, ◌-◌}
use mathlib.Core.Path.{◌≡◌, refl, sym, ap, ◌∙◌}
use native.Mathlib.Omega.{arith}
use borrow.Author.Rules.{rules}
use lib.ListN.{get_or}
use Rattle.models.specs.declared.scan.Line.{Line}
use Rattle.models.specs.Told.{Reading}
use Rattle.models.specs.declared.reader.Progress.{Progress}
use Rattle.models.specs.inner.Progress.{stored}
use Rattle.models.specs.Reading.{table_in, fence_from, lines_from}
use Rattle.models.proofs.Steps.{line_stuck, line_next, lines_last, lines_end, lines_fence, fence_name, fence_stored}
use Rattle.models.proofs.reader.lines.Goals as goal

pub returns-then-byte_at-ne102 : goal.returns-then-byte_at-ne102
returns-then-byte_at-ne102 c =
    let l = c.loop-k in
    let t = c.args.text.now in
    let other : get_or t l.here 0 ≡ 102 → ⊥ = λ e. c.if-byte_at-ne102.true (c.byte_at.ensures ∙ e) in
    c.end.ensures ∙ sym (l.invariant.1 ∙ lines_end t (record { model = l.model; repeat = l.repeat }) l.here (16 - l.k) other)

pub returns-in_err-line : goal.returns-in_err-line
returns-in_err-line c =
    let l = c.loop-k in
    let p : Progress = record { model = l.model; repeat = l.repeat } in
    let t = c.args.text.now in
    let begins = sym c.byte_at.ensures ∙ c.if-byte_at-ne102.false in
    search (rules, l.invariant.1, lines_fence t p l.here (16 - l.k) (omega (arith, c.loop-k-test.true)) begins)

pub overflow_sub-line : goal.overflow_sub-line
overflow_sub-line c =
    let l = c.loop-k in
    let t = c.args.text.now in
    (fence_name t c.in_ok-line.line l.here (search rules)).above

pub name_in-name-requires : goal.name_in-name-requires
name_in-name-requires c =
    let l = c.loop-k in
    let t = c.args.text.now in
    let ends = fence_name t c.in_ok-line.line l.here (search rules) in
    (ends.run, ends.within)

pub loop-k-preserved : goal.loop-k-preserved
loop-k-preserved c =
    let l = c.loop-k in
    let p : Progress = record { model = l.model; repeat = l.repeat } in
    let t = c.args.text.now in
    let line = c.in_ok-line.line in
    let next : Line → Reading = λ line. lines_from (16 - l.k - 1) t (fence_from t p line) line.next in
    let table = c.table_in-table.ensures ∙ ap table_in c.rest.ensures in
    let more = fence_stored t p l.k line l.invariant.0 c.name_in-name.ensures table c.repeat_place-repeat.ensures in
    let begins = sym c.byte_at.ensures ∙ c.if-byte_at-ne102.false in
    let now : Progress = record {
      model = stored l.model l.k c.name_in-name.result c.table_in-table.result;
      repeat = c.repeat_place-repeat.result;
    } in
    let on = ap (λ (p : Progress). lines_from (16 - l.k - 1) t p line.next) more in (
      refl,
      l.invariant.1
          ∙ lines_fence t p l.here (16 - l.k) (omega (arith, c.loop-k-test.true)) begins
          ∙ sym (line_next next refl (search rules) on)
          ∙ ap (λ (n : ℕ). lines_from n t now line.next) (omega arith),
    )

pub returns : goal.returns
returns c =
    let l = c.loop-k in
    let t = c.args.text.now in
    let p : Progress = record { model = l.model; repeat = l.repeat } in
    c.end-2.ensures ∙ sym (l.invariant.1 ∙ lines_last t p l.here (16 - l.k) (omega (arith, c.loop-k-test.false)))
