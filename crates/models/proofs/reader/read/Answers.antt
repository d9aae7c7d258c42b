-- `read` meets its contract: the lines above the fences decide, and then the fences' lines; and that is what 01's words say. Assumes nothing.
use mathlib.Core.Path.{◌≡◌, refl, sym, ap, ap₂, ◌∙◌}
use Rattle.std.specs.Prelude.{None}
use lib.ListN.{drop}
use Rattle.models.specs.declared.model.Model.{Model}
use Rattle.models.specs.Reading.{name_in, table_in, lines_from, after_head}
use Rattle.models.specs.Told.{bare}
use Rattle.models.proofs.Words.{meets}
use Rattle.models.proofs.Steps.{line_stuck, line_next, reading_within, head_name}
use borrow.Author.Rules.{rules}
use Rattle.models.proofs.reader.read.Goals as goal

pub overflow_sub-line : goal.overflow_sub-line
overflow_sub-line c = (head_name c.args.text.now c.in_ok-line.line (search rules)).above

pub name_in-name-requires : goal.name_in-name-requires
name_in-name-requires c =
    let ends = head_name c.args.text.now c.in_ok-line.line (search rules) in
    (ends.run, ends.within)

pub returns-in_err-line : goal.returns-in_err-line
returns-in_err-line c =
    let t = c.args.text.now in
    let within = reading_within t (search rules) in
    let both = meets t (search (rules, within)) in
    record { equation = both.0; words = both.1 }

pub returns : goal.returns
returns c =
    let t = c.args.text.now in
    let line = c.in_ok-line.line in
    let name : c.name_in-name.result ≡ name_in (drop line.name t) = c.name_in-name.ensures in
    let ppo : c.table_in-ppo.result ≡ table_in (drop line.table t) =
    c.table_in-ppo.ensures ∙ ap table_in c.rest.ensures in
    let is : c.lines.result ≡ after_head t line =
    c.lines.ensures
    ∙ ap (λ (m : Model). lines_from 16 t (record { model = m; repeat = None }) line.next) (c.bare_model-model.ensures ∙ ap₂ bare name ppo) in
    let both = meets t (line_next (after_head t) refl (search rules) is ∙ sym (reading_within t (search rules))) in
    record { equation = both.0; words = both.1 }
