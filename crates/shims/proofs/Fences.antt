-- A model that was read has at most sixteen fences, since its text is of the form. Assumes nothing.
use Prim.Native.Nat.{ℕ, ◌≤◌}
use mathlib.Core.Path.{◌≡◌, subst}
use mathlib.Core.List.{List}
use native.Mathlib.Omega.{arith}
use lib.ListN.{length, length-take}
use Rattle.models.specs.declared.model.Model.{Model}
use Rattle.models.specs.Reading.{reading}
use Rattle.models.proofs.Words.{told, accepted_told}
use Rattle.models.specs.Told.{accepting}
use Rattle.shims.specs.Models.{model_of}

pub few_read : (text : List ℕ) {m : Model} → reading text ≡ accepting m → m.fences ≤ 16
few_read text e =
    let d = accepted_told (told text) e in
    subst (λ (x : Model). x.fences ≤ 16) d.3 d.1.few

-- the same as the rule sees it
pub few_fences : (m : Model) → m.fences ≤ 16 → length (model_of m).fences ≤ 16
few_fences m h = omega (arith, length-take m.fences m.tables)
