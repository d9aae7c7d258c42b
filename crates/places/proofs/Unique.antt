-- For each public function: two results that its contract allows are equal, since both are equal to what the contract names. Assumes nothing.
use Prim.Native.Nat.{ℕ, ◌<◌, ◌≤◌}
use mathlib.Core.Path.{◌≡◌, sym, ◌∙◌}
use Rattle.places.specs.declared.Place.{Place}
use Rattle.places.specs.Layout.{limit, blocks_for, stands_at, entry_start}

pub stands_at_one : (i : ℕ) {r r' : Place} → r ≡ stands_at 1 i → r' ≡ stands_at 1 i → r ≡ r'
stands_at_one i p q = p ∙ sym q

pub entry_start_one : (state : ℕ) {r r' : ℕ} → (r ≡ entry_start 1 state) × (r < limit) → (r' ≡ entry_start 1 state) × (r' < limit) → r ≡ r'
entry_start_one state p q = p.0 ∙ sym q.0

pub blocks_for_one : (states : ℕ) {r r' : ℕ} → (r ≡ blocks_for 1 states) × (r ≤ 14) → (r' ≡ blocks_for 1 states) × (r' ≤ 14) → r ≡ r'
blocks_for_one states p q = p.0 ∙ sym q.0
