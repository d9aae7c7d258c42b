-- `list_parts` meets its contract: it is refused as its opening is, or lists the models. Assumes nothing.
use mathlib.Core.Path.{sym, ◌∙◌}
use borrow.Author.Rules.{rules}
use Rattle.shims.proofs.Calls.{given_refused}
use Rattle.listed.proofs.Made.{sixteen_opened}
use Rattle.listed.proofs.list_parts.Goals as goal

pub list_models-requires : goal.list_models-requires
list_models-requires c =
    let a = c.args in
    sixteen_opened a.way a.upstream.now a.target.now (sym c.read_texts.ensures ∙ c.in_ok-read_texts.was)

pub returns-in_err-read_texts : goal.returns-in_err-read_texts
returns-in_err-read_texts c = given_refused _ {why = c.in_err-read_texts.field-0.0} (sym c.read_texts.ensures ∙ c.in_err-read_texts.was) (search rules)
