-- `name_in` meets its contract: a name's bytes are as many as were counted, at most sixteen. Assumes nothing.
use Prim.Native.Nat.{ℕ, ◌-◌}
use mathlib.Core.Path.{◌≡◌, ap, ◌∙◌}
use mathlib.Core.List.{List}
use native.Mathlib.Omega.{arith}
use lib.ListN.{take, drop}
use lib.Seq.{take_all, length-take-le}
use Rattle.texts.specs.NamePart.{name_run}
use Rattle.models.specs.Told.{filled}
use Rattle.models.specs.Reading.{name_in}
use Rattle.texts.proofs.NamePart.{run_few, run_within}
use Rattle.models.proofs.reader.name_in.Goals as goal

pub returns : goal.returns
unfolding name_in
returns c =
    let a = c.args in
    let s : List ℕ = drop a.from a.text.now in
    let n : a.past - a.from ≡ name_run 16 s = omega arith in
    let all = take_all 16 (take (name_run 16 s) s) (omega (arith, run_few s, length-take-le (name_run 16 s) s (run_within s))) in
    c.first_bytes.ensures ∙ ap filled (ap (λ (k : ℕ). take 16 (take k s)) n ∙ all)
