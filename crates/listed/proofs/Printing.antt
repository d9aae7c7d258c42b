-- What is put into the buffer: what a word of the rows says, and the parts of its line. Assumes nothing.
use Prim.Native.Nat.{ℕ, ◌/◌, ◌%◌}
use mathlib.Core.Path.{◌≡◌, sym, ap, ap₂, ◌∙◌}
use mathlib.Core.Bool.{Bool, cond}
use mathlib.Core.List.{[], ◌∷◌, ◌++◌}
use native.Mathlib.Decide.{ℕ_discrete}
use borrow.Author.Tests.{eq-eqb, ne_eqb}
use Rattle.ground.specs.Bytes.{bytes}
use Rattle.operations.specs.Alphabet.{operation_of, fence_mark}
use Rattle.operations.specs.Operation.{byte_of}
use Rattle.printing.specs.Decimal.{decimal}
use Rattle.mealy.specs.Runs.{refused, taken}
use Rattle.machine.specs.Rows.{decoded}
use Rattle.listed.specs.Printed.{answer_mark, next_state, step_line}

-- what a word says
pub decoded_refused : (w : ℕ) → w / 256 ≡ 254 → decoded w ≡ refused
decoded_refused w e = ap (λ (q : Bool). cond q refused (taken (w / 256) (w % 256))) (eq-eqb _ _ e)

pub decoded_taken : (w : ℕ) → (w / 256 ≡ 254 → ⊥) → decoded w ≡ taken (w / 256) (w % 256)
decoded_taken w e = ap (λ (q : Bool). cond q refused (taken (w / 256) (w % 256))) (ne_eqb _ _ e)

pub mark_word : (w : ℕ) → fence_mark (w / 256) ≡ answer_mark (decoded w)
mark_word w = by (ℕ_discrete (w / 256) 254)
  where
    by : Dec (w / 256 ≡ 254) → fence_mark (w / 256) ≡ answer_mark (decoded w)
    by (yes e) = ap fence_mark e ∙ sym (ap answer_mark (decoded_refused w e))
    by (no e) = sym (ap answer_mark (decoded_taken w e))

-- the parts of a step's line
pub step_text : (s a w l m n : ℕ) → l ≡ byte_of (operation_of a) → m ≡ answer_mark (decoded w) → n ≡ next_state (decoded w)
    → decimal s ++ ((32 ∷ l ∷ 32 ∷ m ∷ 32 ∷ []) ++ (decimal n ++ bytes "\n")) ≡ step_line s a (decoded w)
step_text s a w l m n hl hm hn =
    ap (λ (x : ℕ). decimal s ++ ((32 ∷ x ∷ 32 ∷ m ∷ 32 ∷ []) ++ (decimal n ++ bytes "\n"))) hl
    ∙ ap₂ (λ (x y : ℕ). decimal s ++ ((32 ∷ byte_of (operation_of a) ∷ 32 ∷ x ∷ 32 ∷ []) ++ (decimal y ++ bytes "\n"))) hm hn
