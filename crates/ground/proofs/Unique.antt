-- The contract of each public function allows one result: it is an equation, and two results that meet it equal the same. Assumes nothing.
use Prim.Native.Nat.{ℕ, ◌<◌, ◌≤◌, ◌+◌}
use mathlib.Core.Path.{◌≡◌, sym, ◌∙◌}
use mathlib.Core.Bool.{Bool}
use mathlib.Core.List.{List}
use lib.ListN.{length, drop}
use Rattle.ground.specs.Bytes.{at, name_byte, same_bytes}
use Rattle.ground.specs.Search.{index_of}

pub wide_one : (byte : ℕ) {r r' : ℕ} → (r ≡ byte) × (r < 256) → (r' ≡ byte) × (r' < 256) → r ≡ r'
wide_one byte p q = p.0 ∙ sym q.0

pub byte_at_one : (bytes : List ℕ) (i : ℕ) {r r' : ℕ} → r ≡ at bytes i → r' ≡ at bytes i → r ≡ r'
byte_at_one bytes i p q = p ∙ sym q

pub number_at_one : (bytes : List ℕ) (i : ℕ) {r r' : ℕ} → (r ≡ at bytes i) × (r < 256) → (r' ≡ at bytes i) × (r' < 256) → r ≡ r'
number_at_one bytes i p q = p.0 ∙ sym q.0

pub is_name_byte_one : (b : ℕ) {r r' : Bool} → r ≡ name_byte b → r' ≡ name_byte b → r ≡ r'
is_name_byte_one b p q = p ∙ sym q

pub same_one : (first second : List ℕ) {r r' : Bool} → r ≡ same_bytes first second → r' ≡ same_bytes first second → r ≡ r'
same_one first second p q = p ∙ sym q

pub find_one : (bytes : List ℕ) (from byte : ℕ) {r r' : ℕ}
    → ((from ≤ r) × (from ≤ length bytes → r ≤ length bytes)) × (r ≡ from + index_of byte (drop from bytes))
    → ((from ≤ r') × (from ≤ length bytes → r' ≤ length bytes)) × (r' ≡ from + index_of byte (drop from bytes)) → r ≡ r'
find_one bytes from byte p q = p.1 ∙ sym q.1
