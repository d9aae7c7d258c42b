-- `built_model` meets its contract: it is the row of the table. Assumes nothing.
use mathlib.Core.Path.{ap, ◌∙◌}
use Rattle.models.specs.declared.model.Name.{Name}
use Rattle.models.specs.Told.{bare}
use Rattle.built_ins.specs.inner.Numbers.{number, model_numbers}
use Rattle.built_ins.proofs.BuiltIns.{row_filled}
use Rattle.built_ins.proofs.numbers.built_model.Goals as goal

pub returns : goal.returns
unfolding model_numbers
returns c =
    let first = c.built_name-2 in
    let second = c.built_name-3 in
    let third = c.built_name-4 in
    let n = c.args.n in
    row_filled n c.bare_model-model.result first.result second.result third.result
    (c.bare_model-model.ensures ∙ ap (λ (x : Name). bare x (record { packed = number n 1 })) c.built_name.ensures)
    first.ensures
    second.ensures
    third.ensures
