-- The letter of a kind and the kind of a letter are inverse, case by case; so are the letter of an operation and the operation of a letter. Assumes
-- nothing.
use Prim.Native.Nat.{ℕ, zero, suc, ◌+◌, ◌-◌, ◌<◌}
use mathlib.Core.Path.{◌≡◌, refl}
use native.Mathlib.Omega.{arith}
use borrow.Author.Tests.{lt-ltb, le-ltb}
use Rattle.operations.specs.declared.Kind.{Kind}
use Rattle.operations.specs.declared.Operation.{Operation}
use Rattle.operations.specs.Alphabet.{access_letters, kind_of, letter_of, letter_in, operation_of}

-- For readers: every kind has one letter, and every letter of an access one kind.
pub kind_of_letter : (k : Kind) → kind_of (letter_of k) ≡ k
kind_of_letter Kind.Ld = refl
kind_of_letter Kind.Cld = refl
kind_of_letter Kind.St = refl
kind_of_letter Kind.Cst = refl

pub letter_of_kind : (a : ℕ) → a < access_letters → letter_of (kind_of a) ≡ a
letter_of_kind zero l = refl
letter_of_kind (suc zero) l = refl
letter_of_kind (suc (suc zero)) l = refl
letter_of_kind (suc (suc (suc zero))) l = refl
letter_of_kind (suc (suc (suc (suc a)))) l = absurd (omega arith)

pub letter_few : (k : Kind) → letter_of k < access_letters
letter_few Kind.Ld = omega arith
letter_few Kind.Cld = omega arith
letter_few Kind.St = omega arith
letter_few Kind.Cst = omega arith

pub operation_of_letter : (op : Operation) → operation_of (letter_in op) ≡ op
operation_of_letter (Operation.Access k) = rw (lt-ltb (letter_of k) access_letters (letter_few k), kind_of_letter k)
operation_of_letter (Operation.Fence n) =
    let e : access_letters + n - access_letters ≡ n = omega arith in
    rw (le-ltb (access_letters + n) access_letters (omega arith), e)
