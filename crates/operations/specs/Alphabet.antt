-- The letters of a machine: its operations by their places. Document 01: "by operation in the order l, L, s, S, 0 upwards"; an image has for
-- each state an entry "for l, L, s, S", then one for each upstream fence.
-- The order stands here alone: machines, images, runs over images and listings go by it.
use Rattle.std.specs.Prelude.{ℕ, ◌+◌, ◌-◌, cond, ltb, eqb}
use Rattle.operations.specs.declared.Kind.{Kind}
use Rattle.operations.specs.declared.Operation.{Operation}
use Rattle.operations.specs.Operation.{fence_byte}

-- how many letters are accesses, and how many there are with so many upstream fences
abbrev pub access_letters : ℕ
access_letters = 4

abbrev pub letters_with : ℕ → ℕ
letters_with fences = access_letters + fences

-- as many as there can be: in rows of answers, one state's begin so many places behind those of the state before it
abbrev pub stride : ℕ
stride = letters_with 16

-- the kind of an access's letter, and the letter of a kind
abbrev pub kind_of : ℕ → Kind
kind_of a = cond (eqb a 0) Kind.Ld (cond (eqb a 1) Kind.Cld (cond (eqb a 2) Kind.St Kind.Cst))

abbrev pub letter_of : Kind → ℕ
letter_of Kind.Ld = 0
letter_of Kind.Cld = 1
letter_of Kind.St = 2
letter_of Kind.Cst = 3

-- the letter of an operation, and the operation of a letter
abbrev pub letter_in : Operation → ℕ
letter_in (Operation.Access k) = letter_of k
letter_in (Operation.Fence n) = access_letters + n

abbrev pub operation_of : ℕ → Operation
operation_of a = cond (ltb a access_letters) (Operation.Access (kind_of a)) (Operation.Fence (a - access_letters))

-- the mark of a fence byte of a machine's words, which listings and drawings print: "fence byte or `-`, or `!` if refused". An image has "a fence
-- byte (a number, FF none, FE refused)".
abbrev pub fence_mark : ℕ → ℕ
fence_mark fence = cond (eqb fence 254) 33 (cond (eqb fence 255) 45 (fence_byte fence))
