-- `read_byte` meets its contract: one law for each letter and each range. Assumes nothing.
use mathlib.Core.Path.{sym, ap, ◌∙◌}
use native.Mathlib.Omega.{arith}
use Rattle.operations.specs.declared.Kind.{Kind}
use Rattle.operations.specs.Operation.{byte_is}
use Rattle.operations.proofs.Bytes.{access_read, digit_byte, letter_byte, no_byte}
use Rattle.operations.proofs.read_byte.Goals as goal

pub returns-in-108 : goal.returns-in-108
returns-in-108 c = sym (ap byte_is c.in-108.is ∙ access_read Kind.Ld)

pub returns-in-76 : goal.returns-in-76
returns-in-76 c = sym (ap byte_is c.in-76.is ∙ access_read Kind.Cld)

pub returns-in-115 : goal.returns-in-115
returns-in-115 c = sym (ap byte_is c.in-115.is ∙ access_read Kind.St)

pub returns-in-83 : goal.returns-in-83
returns-in-83 c = sym (ap byte_is c.in-83.is ∙ access_read Kind.Cst)

pub returns-in-48-to-57 : goal.returns-in-48-to-57
returns-in-48-to-57 c = sym (digit_byte _ (omega arith) (omega arith))

pub returns-in-65-to-70 : goal.returns-in-65-to-70
returns-in-65-to-70 c = sym (letter_byte _ (omega arith) (omega arith))

pub returns-in_default : goal.returns-in_default
returns-in_default c = sym (no_byte _ (λ e. omega arith, λ e. omega arith, λ e. omega arith, λ e. omega arith) (λ l u. omega arith) (λ l u. omega arith))

pub returns-in_default-2 : goal.returns-in_default-2
returns-in_default-2 c = sym (no_byte _ (λ e. omega arith, λ e. omega arith, λ e. omega arith, λ e. omega arith) (λ l u. omega arith) (λ l u. omega arith))

pub returns-in_default-3 : goal.returns-in_default-3
returns-in_default-3 c = sym (no_byte _ (λ e. omega arith, λ e. omega arith, λ e. omega arith, λ e. omega arith) (λ l u. omega arith) (λ l u. omega arith))
