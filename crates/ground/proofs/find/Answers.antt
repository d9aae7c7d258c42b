-- `find` meets its contract: the byte's place behind `from` is what `position` finds there. Assumes nothing.
use Rattle.std.proofs.Common.{ℕ, ◌+◌, rules, ap, sym, ◌∙◌, eqb, drop, arith}
use Rattle.std.proofs.lemmas.Iterator.{YieldsList-from_slice}
use Rattle.std.proofs.lemmas.Iterator.Adapters.{YieldsList-from_skip}
use Rattle.std.proofs.lemmas.Iterator.Search.{position_from_yields_List}
use borrow.Author.Tests.{tests}
use lib.ListN.{length-drop}
use Rattle.ground.proofs.Search.{found, not_found}
use Rattle.ground.proofs.find.Goals as goal

pub returns-in-Some-clause-value : goal.returns-in-Some-clause-value
returns-in-Some-clause-value c =
    let a = c.args in
    let looked =
    position_from_yields_List (λ (x : ℕ). eqb x a.byte) _ _ c.position.result c.position.ensures.ran
    (YieldsList-from_skip a.from (YieldsList-from_slice a.bytes.now cc) cc) (λ x b q k. search (rules, tests)) in
    ap (λ (n : ℕ). a.from + n) (found a.byte (drop a.from a.bytes.now) c.in-Some.i (sym looked ∙ c.in-Some.is))

pub returns-in-None-clause-value : goal.returns-in-None-clause-value
returns-in-None-clause-value c =
    let a = c.args in
    let looked =
    position_from_yields_List (λ (x : ℕ). eqb x a.byte) _ _ c.position.result c.position.ensures.ran
    (YieldsList-from_skip a.from (YieldsList-from_slice a.bytes.now cc) cc) (λ x b q k. search (rules, tests)) in
    omega (arith, c.max.ensures, length-drop a.from a.bytes.now, not_found a.byte (drop a.from a.bytes.now) (sym looked ∙ c.in-None.is))
