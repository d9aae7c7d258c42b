-- `name_bytes` meets its contract: it counts the name bytes among the next sixteen. Assumes nothing.
use mathlib.Core.Path.{ap, ◌∙◌}
use native.Mathlib.Omega.{arith}
use Rattle.std.proofs.Common.{ℕ, ◌-◌, List, rules, length, min, take, drop, length-drop}
use Rattle.std.proofs.lemmas.Iterator.{YieldsList-from_slice, YieldsList-from_take}
use Rattle.std.proofs.lemmas.Iterator.Consumers.{count_from_yields_List}
use Rattle.std.proofs.lemmas.Iterator.Search.{YieldsList-from_take_while}
use Rattle.std.proofs.lemmas.List.{drop_min, take_all}
use Rattle.std.proofs.lemmas.List.Folds.{length-prefix_len}
use borrow.Author.Tests.{tests}
use Rattle.ground.specs.Bytes.{name_byte}
use Rattle.texts.specs.NamePart.{name_run}
use Rattle.texts.proofs.NamePart.{run_counted}
use Rattle.texts.proofs.name_bytes.Goals as goal

pub returns : goal.returns
returns c =
    let t = c.args.text.now in
    let m : ℕ = min c.args.at (length t) in
    let rest : List ℕ = take (length t - m) (drop m t) in
    count_from_yields_List c.take_while.result _ c.count.ensures.ran
    (YieldsList-from_take_while _ name_byte
    (YieldsList-from_take 16 (YieldsList-from_slice rest (search rules)) (search rules))
    c.take_while.ensures.closure c.take_while.ensures.done (λ x b q k. search (rules, tests)))
    ∙ length-prefix_len name_byte (take 16 rest) ∙ run_counted 16 rest
    ∙ ap (λ (s : List ℕ). name_run 16 s)
    (take_all (length t - m) (drop m t) (omega (arith, length-drop m t)) ∙ drop_min c.args.at t)
