-- `built_name` meets its contract: each number below 16 has its name. Assumes nothing.
use Prim.Native.Nat.{ℕ, ◌%◌, ◌<◌}
use mathlib.Core.Path.{◌≡◌, refl, sym, ap, ◌∙◌}
use mathlib.Core.List.{List}
use native.Mathlib.Nat.{mod-lt}
use native.Mathlib.Omega.{arith}
use lib.ListN.{take}
use Rattle.std.specs.Borrow.{Bor}
use Rattle.models.specs.Told.{filled}
use Rattle.built_ins.specs.inner.Numbers.{name_from, name_bytes}
use Rattle.built_ins.proofs.numbers.built_name.Goals as goal
use Rattle.built_ins.proofs.numbers.built_name.Goals.{in-0, in-1, in-2, in-3, in-4, in-5, in-6, in-7}
use Rattle.built_ins.proofs.numbers.built_name.Goals.{in-8, in-9, in-10, in-11, in-12, in-13, in-14, in_default}

named : {name text : Bor (List ℕ)} {i k : ℕ} → name ≡ text → i ≡ k → filled (take 16 text.now) ≡ name_from k → filled (take 16 name.now) ≡ name_from i
named n e is = ap (λ (b : Bor (List ℕ)). filled (take 16 b.now)) n ∙ is ∙ ap name_from (sym e)

pub returns : goal.returns
unfolding name_from name_bytes
returns c =
    let i = c.args.index in
    let below : i % 16 < 16 = mod-lt i (omega arith) in
    c.first_bytes.ensures
    ∙ elim c.match-index-rem16.branch [
      | in-0 w ↦ named w.name-is w.in-0.is refl
      | in-1 w ↦ named w.name-is w.in-1.is refl
      | in-2 w ↦ named w.name-is w.in-2.is refl
      | in-3 w ↦ named w.name-is w.in-3.is refl
      | in-4 w ↦ named w.name-is w.in-4.is refl
      | in-5 w ↦ named w.name-is w.in-5.is refl
      | in-6 w ↦ named w.name-is w.in-6.is refl
      | in-7 w ↦ named w.name-is w.in-7.is refl
      | in-8 w ↦ named w.name-is w.in-8.is refl
      | in-9 w ↦ named w.name-is w.in-9.is refl
      | in-10 w ↦ named w.name-is w.in-10.is refl
      | in-11 w ↦ named w.name-is w.in-11.is refl
      | in-12 w ↦ named w.name-is w.in-12.is refl
      | in-13 w ↦ named w.name-is w.in-13.is refl
      | in-14 w ↦ named w.name-is w.in-14.is refl
      | in_default w ↦ named {i = i % 16} {k = 15} w.name-is (omega (arith, w.in_default, below)) refl
    ]
