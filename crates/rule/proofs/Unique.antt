-- For each public function: two results that its contract allows are equal, since both are equal to what the contract names. Assumes nothing.
use Prim.Native.Nat.{ℕ}
use mathlib.Core.Path.{◌≡◌, sym, ◌∙◌}
use mathlib.Core.List.{List}
use Rattle.tables.specs.declared.table.Table.{Table}
use Rattle.operations.specs.declared.Kind.{Kind}
use Rattle.rule.specs.declared.situation.Situation.{Situation}
use Rattle.rule.specs.declared.way.Shim.{Shim}
use Rattle.rule.specs.declared.way.Step.{Step}
use Rattle.rule.specs.declared.way.Way.{Way}
use Rattle.rule.specs.Pairs.{table_at}
use Rattle.rule.specs.Rule.{way_number}
use Rattle.rule.specs.Sides.{target_of}
use Rattle.rule.specs.Situation.{fresh, asks, stepped}

pub fresh_one : {r r' : Situation} → r ≡ fresh → r' ≡ fresh → r ≡ r'
fresh_one p q = p ∙ sym q

pub asks_one : (self : Situation) (fence : Table) {r r' : Situation} → r ≡ asks fence self → r' ≡ asks fence self → r ≡ r'
asks_one self fence p q = p ∙ sym q

pub way_number_one : (way : Way) {r r' : ℕ} → r ≡ way_number way → r' ≡ way_number way → r ≡ r'
way_number_one way p q = p ∙ sym q

pub fence_table_one : (fences : List ℕ) (number : ℕ) {r r' : Table} → r ≡ table_at fences number → r' ≡ table_at fences number → r ≡ r'
fence_table_one fences number p q = p ∙ sym q

pub take_one : (shim : Shim) (fences : List ℕ) (situation : Situation) (kind : Kind) {r r' : Step}
    → r ≡ stepped shim.way shim.upstream (target_of shim fences) situation kind
    → r' ≡ stepped shim.way shim.upstream (target_of shim fences) situation kind → r ≡ r'
take_one shim fences situation kind p q = p ∙ sym q
