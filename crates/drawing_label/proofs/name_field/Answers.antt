use Prim.Native.Nat.{ℕ, ◌-◌}
use mathlib.Core.Path.{◌≡◌, ap, ◌∙◌}
use mathlib.Core.List.{List, ◌++◌}
use native.Mathlib.Omega.{arith}
use borrow.Author.Rules.{rules}
use lib.ListN.{length, take, drop, replicate, length-drop}
use lib.Seq.{take_all}
use Rattle.drawing_label.specs.Label.{field, name_in}
use Rattle.drawing_label.proofs.Fields.{field_counted}
use Rattle.drawing_label.proofs.name_field.Goals as goal

pub returns-in-Some : goal.returns-in-Some
returns-in-Some c =
    let t : List ℕ = c.args.text.now in
    let at : ℕ = c.args.at in
    let s : List ℕ = c.in-Some.rest.now in
    let n : ℕ = c.name_length-n.result in
    let copied : c.copy_from_slice.new.self ≡ take n s = search rules in
    let here : s ≡ drop at t = c.in-Some.ensures.lookup.0.2 ∙ take_all (length t - at) (drop at t) (omega (arith, length-drop at t)) in
    ap (λ (x : List ℕ). x ++ drop n (replicate 16 0)) copied ∙ field_counted s n c.name_length-n.ensures.count ∙ ap (λ (x : List ℕ). field (name_in x)) here
