-- The contract of each public function allows one result: it is an equation, and of `compare_tables` 01's words alone, its other clause, allow one
-- comparison too, which is the one that the equation says. Assumes nothing.
use Prim.Native.Nat.{ℕ}
use mathlib.Core.Path.{◌≡◌, sym, ◌∙◌}
use mathlib.Core.List.{List}
use Rattle.comparison.specs.Comparison.{Compared, number_of, Compares, comparing}
use Rattle.tables.specs.declared.table.Table.{Table}
use Rattle.comparison.specs.declared.Comparison.{Comparison}
use Rattle.comparison.proofs.Words.{compares_is}

pub number_one : (self : Comparison) {r r' : ℕ} → r ≡ number_of self → r' ≡ number_of self → r ≡ r'
number_one self p q = p ∙ sym q

pub compare_tables_one : (first second : Table) {r r' : Comparison} → Compares first second r → Compares first second r' → r ≡ r'
compare_tables_one first second p q = compares_is p ∙ sym (compares_is q)

pub compare_one : (first second : List ℕ) {r r' : Compared} → r ≡ comparing first second → r' ≡ comparing first second → r ≡ r'
compare_one first second p q = p ∙ sym q
