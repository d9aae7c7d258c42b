-- The contract of each public function allows one result: it is an equation, and two results that meet it equal the same. Assumes nothing.
use Rattle.std.proofs.Common.{Option}
use Prim.Native.Nat.{ℕ, ◌<◌}
use mathlib.Core.Path.{◌≡◌, sym, ◌∙◌}
use Rattle.operations.specs.declared.Kind.{Kind}
use Rattle.operations.specs.declared.Operation.{Operation}
use Rattle.operations.specs.Operation.{byte_is, byte_of}
use Rattle.operations.specs.Alphabet.{access_letters, kind_of, letter_of, operation_of, fence_mark}

pub read_byte_one : (byte : ℕ) {r r' : Option Operation} → r ≡ byte_is byte → r' ≡ byte_is byte → r ≡ r'
read_byte_one byte p q = p ∙ sym q

pub byte_of_one : (operation : Operation) {r r' : ℕ} → r ≡ byte_of operation → r' ≡ byte_of operation → r ≡ r'
byte_of_one operation p q = p ∙ sym q

pub kind_of_one : (letter : ℕ) {r r' : Kind} → r ≡ kind_of letter → r' ≡ kind_of letter → r ≡ r'
kind_of_one letter p q = p ∙ sym q

pub letter_of_one : (kind : Kind) {r r' : ℕ} → (r ≡ letter_of kind) × (r < access_letters) → (r' ≡ letter_of kind) × (r' < access_letters) → r ≡ r'
letter_of_one kind p q = p.0 ∙ sym q.0

pub operation_of_one : (letter : ℕ) {r r' : Operation} → r ≡ operation_of letter → r' ≡ operation_of letter → r ≡ r'
operation_of_one letter p q = p ∙ sym q

pub letter_byte_one : (letter : ℕ) {r r' : ℕ} → r ≡ byte_of (operation_of letter) → r' ≡ byte_of (operation_of letter) → r ≡ r'
letter_byte_one letter p q = p ∙ sym q

pub fence_mark_one : (fence : ℕ) {r r' : ℕ} → r ≡ fence_mark fence → r' ≡ fence_mark fence → r ≡ r'
fence_mark_one fence p q = p ∙ sym q
