-- For each public function: two results that its contract allows are equal, since both are equal to what the contract names. Assumes nothing.
use Rattle.std.proofs.Common.{Option, Some}
use Prim.Native.Nat.{ℕ}
use mathlib.Core.Path.{◌≡◌, sym, ◌∙◌}
use mathlib.Core.List.{List}
use lib.ListN.{take}
use Rattle.rule.specs.declared.way.Shim.{Shim}
use Rattle.rule.specs.declared.way.Way.{Way}
use Rattle.shims.specs.declared.Models.{Models}
use Rattle.shims.specs.declared.Sides.{Sides}
use Rattle.shims.specs.Opening.{Opening, way_of, opened_by, opened}
use Rattle.shims.specs.Models.{model_of, shim_between}

pub way_of_one : (number : ℕ) {r r' : Option Way} → r ≡ way_of number → r' ≡ way_of number → r ≡ r'
way_of_one number p q = p ∙ sym q

pub fences_of_one : (tables : List ℕ) (count : ℕ) {r r' : List ℕ} → r ≡ take count tables → r' ≡ take count tables → r ≡ r'
fences_of_one tables count p q = p ∙ sym q

pub shim_between_one : (models : Models) {r r' : Shim} → r ≡ shim_between models → r' ≡ shim_between models → r ≡ r'
shim_between_one models p q = p ∙ sym q

pub sides_of_one : (models : Models) (r r' : Sides)
    → (r.shim ≡ shim_between models) × (r.fences.now ≡ (model_of models.upstream).fences) × (r.targets.now ≡ (model_of models.target).fences)
    → (r'.shim ≡ shim_between models) × (r'.fences.now ≡ (model_of models.upstream).fences) × (r'.targets.now ≡ (model_of models.target).fences)
    → (r.shim ≡ r'.shim) × (r.fences.now ≡ r'.fences.now) × (r.targets.now ≡ r'.targets.now)
sides_of_one models r r' (s, f, t) (s', f', t') = (s ∙ sym s', f ∙ sym f', t ∙ sym t')

pub read_texts_one : (way : Way) (upstream target : List ℕ) {r r' : Opening} → r ≡ opened_by (Some way) upstream target
    → r' ≡ opened_by (Some way) upstream target → r ≡ r'
read_texts_one way upstream target p q = p ∙ sym q

pub read_both_one : (way : ℕ) (upstream target : List ℕ) {r r' : Opening} → r ≡ opened way upstream target → r' ≡ opened way upstream target
    → r ≡ r'
read_both_one way upstream target p q = p ∙ sym q
