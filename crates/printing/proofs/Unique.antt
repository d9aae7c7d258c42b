-- The contract of each public function allows one text, or one place and one final buffer: it is an equation for each. Assumes nothing.
use Prim.Native.Nat.{ℕ}
use mathlib.Core.Path.{◌≡◌, sym, ◌∙◌}
use mathlib.Core.List.{List}
use lib.ListN.{take}
use Rattle.printing.specs.Decimal.{decimal}
use Rattle.printing.specs.Name.{unfilled}
use Rattle.printing.specs.Printing.{Prints}

pub new_one : (buffer : List ℕ) {bytes bytes' : List ℕ} {at at' : ℕ} → bytes ≡ buffer → bytes' ≡ buffer → at ≡ 0 → at' ≡ 0
    → (at ≡ at') × (bytes ≡ bytes')
new_one buffer p q n m = (n ∙ sym m, p ∙ sym q)

pub text_one : (buffer : List ℕ) (at : ℕ) {t t' : List ℕ} → t ≡ take at buffer → t' ≡ take at buffer → t ≡ t'
text_one buffer at p q = p ∙ sym q

pub put_one : (buffer text : List ℕ) (at : ℕ) {after after' : List ℕ} {r r' : ℕ} → Prints buffer after at r text → Prints buffer after' at r' text
    → (r ≡ r') × (after ≡ after')
put_one buffer text at p q = (p.place ∙ sym q.place, p.buffer ∙ sym q.buffer)

pub put_name_one : (buffer name : List ℕ) (at : ℕ) {after after' : List ℕ} {r r' : ℕ} → Prints buffer after at r (unfilled name)
    → Prints buffer after' at r' (unfilled name) → (r ≡ r') × (after ≡ after')
put_name_one buffer name at = put_one buffer (unfilled name) at

pub put_decimal_one : (buffer : List ℕ) (at number : ℕ) {after after' : List ℕ} {r r' : ℕ} → Prints buffer after at r (decimal number)
    → Prints buffer after' at r' (decimal number) → (r ≡ r') × (after ≡ after')
put_decimal_one buffer at number = put_one buffer (decimal number) at
