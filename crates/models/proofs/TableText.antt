-- The text of a table and the table in a text undo each other. Assumes nothing.
use Prim.Native.Nat.{ℕ, zero, suc, ◌+◌, ◌*◌, ◌<◌}
use mathlib.Core.Path.{◌≡◌, refl, sym, ap, ◌∙◌, subst}
use mathlib.Core.Bool.{Bool, true, false, ◌||◌, cond}
use mathlib.Core.List.{List, [], ◌∷◌, ◌++◌}
use mathlib.Core.Logic.{◌⊎◌, inl, inr}
use native.Mathlib.Omega.{arith}
use lib.Dec.{T, eqb, eqb→eq, lit<}
use lib.ListN.{length, get_or}
use Rattle.tables.specs.declared.table.Table.{Table}
use Rattle.tables.specs.declared.table.Row.{Row}
use Rattle.tables.specs.declared.table.Column.{Column}
use Rattle.tables.specs.Strength.{level_of, letter}
use Rattle.tables.specs.Table.{row_number, column_number, cell, Clean}
use Rattle.tables.proofs.Strengths.{level_letter}
use Rattle.tables.proofs.Laws.{row_below, column_below, cell_below, cell_made, table_cong, table_own}
use Rattle.models.specs.Text.{table_part}
use Rattle.texts.specs.Pattern.{cell_byte, fits, Follows}
use Rattle.models.specs.inner.Lines.{table_pattern}
use Rattle.models.specs.Reading.{table_in}
use Rattle.texts.proofs.Pattern.{length-follows, follows_at}

either : (a b : Bool) → T (a || b) → T a ⊎ T b
either true b t = inl tt
either false b t = inr t

module _ (b : ℕ) where
  -- a cell's byte is one of four
  one_of_four : (P : ℕ → Type 0) → P 45 → P 78 → P 77 → P 83 → T (cell_byte b) → P b
  one_of_four P dash n m s t = fourth (either (eqb b 45 || eqb b 78 || eqb b 77) (eqb b 83) t)
    where
      is : (k : ℕ) → P k → T (eqb b k) → P b
      is k p e = subst P (sym (eqb→eq b k e)) p

      second : T (eqb b 45) ⊎ T (eqb b 78) → P b
      second (inl e) = is 45 dash e
      second (inr e) = is 78 n e

      third : T (eqb b 45 || eqb b 78) ⊎ T (eqb b 77) → P b
      third (inl e) = second (either (eqb b 45) (eqb b 78) e)
      third (inr e) = is 77 m e

      fourth : T (eqb b 45 || eqb b 78 || eqb b 77) ⊎ T (eqb b 83) → P b
      fourth (inl e) = third (either (eqb b 45 || eqb b 78) (eqb b 77) e)
      fourth (inr e) = is 83 s e

  letter_level : T (cell_byte b) → letter (level_of b) ≡ b
  letter_level = one_of_four (λ (x : ℕ). letter (level_of x) ≡ x) refl refl refl refl

level_below : (b : ℕ) → level_of b < 4
level_below b = by (eqb b 78) (eqb b 77) (eqb b 83)
  where
    by : (n m s : Bool) → cond n 1 (cond m 2 (cond s 3 0)) < 4
    by true m s = lit< tt
    by false true s = lit< tt
    by false false true = lit< tt
    by false false false = lit< tt

letter_cell : (n : ℕ) → T (cell_byte (letter n))
letter_cell n = by (eqb n 0) (eqb n 1) (eqb n 2)
  where
    by : (x y z : Bool) → T (cell_byte (cond x 45 (cond y 78 (cond z 77 83))))
    by true y z = tt
    by false true z = tt
    by false false true = tt
    by false false false = tt

-- the table in a table's text
pub table_in_text : (x : Table) (rest : List ℕ) → Clean x → table_in (table_part x ++ rest) ≡ x
unfolding table_in
table_in_text x rest clean = table_cong _ (cell x) at ∙ table_own x clean
  where
    at : (r : Row) (c : Column) → level_of (get_or (table_part x ++ rest) (5 * row_number r + column_number c) 0) ≡ cell x r c
    at Row.Cld Column.Ld = level_letter _ (cell_below x Row.Cld Column.Ld)
    at Row.Cld Column.Cld = level_letter _ (cell_below x Row.Cld Column.Cld)
    at Row.Cld Column.St = level_letter _ (cell_below x Row.Cld Column.St)
    at Row.Cld Column.Cst = level_letter _ (cell_below x Row.Cld Column.Cst)
    at Row.Cst Column.Ld = level_letter _ (cell_below x Row.Cst Column.Ld)
    at Row.Cst Column.Cld = level_letter _ (cell_below x Row.Cst Column.Cld)
    at Row.Cst Column.St = level_letter _ (cell_below x Row.Cst Column.St)
    at Row.Cst Column.Cst = level_letter _ (cell_below x Row.Cst Column.Cst)
    at Row.Ld Column.Ld = level_letter _ (cell_below x Row.Ld Column.Ld)
    at Row.Ld Column.Cld = level_letter _ (cell_below x Row.Ld Column.Cld)
    at Row.Ld Column.St = level_letter _ (cell_below x Row.Ld Column.St)
    at Row.Ld Column.Cst = level_letter _ (cell_below x Row.Ld Column.Cst)
    at Row.St Column.Ld = level_letter _ (cell_below x Row.St Column.Ld)
    at Row.St Column.Cld = level_letter _ (cell_below x Row.St Column.Cld)
    at Row.St Column.St = level_letter _ (cell_below x Row.St Column.St)
    at Row.St Column.Cst = level_letter _ (cell_below x Row.St Column.Cst)

-- a table's text follows the pattern: four cells to a row, and a byte after each row
abbrev CellOf : Table → Row → Column → Type 0
CellOf x r c = T (cell_byte (letter (cell x r c)))

module _ (x : Table) (r : Row) where
  letter_at : (c : Column) → CellOf x r c
  letter_at c = letter_cell (cell x r c)

  row_follows : {P : Type 0} → P → CellOf x r Column.Ld × (CellOf x r Column.Cld × (CellOf x r Column.St × (CellOf x r Column.Cst × P)))
  row_follows p = (letter_at Column.Ld, (letter_at Column.Cld, (letter_at Column.St, (letter_at Column.Cst, p))))

pub part_follows : (x : Table) → Follows table_pattern (table_part x)
part_follows x =
    row_follows x Row.Cld (tt, row_follows x Row.Cst (tt, row_follows x Row.Ld (tt, row_follows x Row.St (tt, tt))))

-- a list of n bytes, byte by byte
up_to : ℕ → (ℕ → ℕ) → List ℕ
up_to zero f = []
up_to (suc n) f = f 0 ∷ up_to n (λ i. f (suc i))

listed : (n : ℕ) (a : List ℕ) → length a ≡ n → a ≡ up_to n (λ i. get_or a i 0)
unfolding up_to
listed zero [] e = refl
listed zero (b ∷ a) e = absurd (omega arith)
listed (suc n) [] e = absurd (omega arith)
listed (suc n) (b ∷ a) e = ap (λ (l : List ℕ). b ∷ l) (listed n a (omega arith))

cell_pattern : (r : Row) (c : Column) → get_or table_pattern (5 * row_number r + column_number c) 0 ≡ 63
cell_pattern Row.Cld Column.Ld = refl
cell_pattern Row.Cld Column.Cld = refl
cell_pattern Row.Cld Column.St = refl
cell_pattern Row.Cld Column.Cst = refl
cell_pattern Row.Cst Column.Ld = refl
cell_pattern Row.Cst Column.Cld = refl
cell_pattern Row.Cst Column.St = refl
cell_pattern Row.Cst Column.Cst = refl
cell_pattern Row.Ld Column.Ld = refl
cell_pattern Row.Ld Column.Cld = refl
cell_pattern Row.Ld Column.St = refl
cell_pattern Row.Ld Column.Cst = refl
cell_pattern Row.St Column.Ld = refl
cell_pattern Row.St Column.Cld = refl
cell_pattern Row.St Column.St = refl
cell_pattern Row.St Column.Cst = refl

-- the text of the table in a text that follows the pattern
module _ (a : List ℕ) (f : Follows table_pattern a) where
  byte_fits : (i : ℕ) → i < 20 → T (fits (get_or table_pattern i 0) (get_or a i 0))
  byte_fits i l = follows_at table_pattern a f i l

  cell_read : (r : Row) (c : Column) → letter (cell (table_in a) r c) ≡ get_or a (5 * row_number r + column_number c) 0
  unfolding table_in
  cell_read r c =
      let low = row_below r in
      let narrow = column_below c in
      let k : ℕ = 5 * row_number r + column_number c in
      let is : T (cell_byte (get_or a k 0)) = subst (λ (p : ℕ). T (fits p (get_or a k 0))) (cell_pattern r c) (byte_fits k (omega arith)) in
      ap letter (cell_made (λ (q : Row) (d : Column). level_of (get_or a (5 * row_number q + column_number d) 0)) r c (level_below (get_or a k 0)))
      ∙ letter_level (get_or a k 0) is

  pub text_of_table : table_part (table_in a) ≡ a
  unfolding up_to
  text_of_table = bytes_are ∙ sym (listed 20 a (length-follows table_pattern a f))
    where
      fixed : (i b : ℕ) → T (eqb (get_or a i 0) b) → b ≡ get_or a i 0
      fixed i b t = sym (eqb→eq (get_or a i 0) b t)

      bytes_are : table_part (table_in a) ≡ up_to 20 (λ i. get_or a i 0)
      bytes_are i =
          cell_read Row.Cld Column.Ld i ∷ cell_read Row.Cld Column.Cld i ∷ cell_read Row.Cld Column.St i ∷ cell_read Row.Cld Column.Cst i
          ∷ fixed 4 32 (byte_fits 4 (omega arith)) i
          ∷ cell_read Row.Cst Column.Ld i ∷ cell_read Row.Cst Column.Cld i ∷ cell_read Row.Cst Column.St i ∷ cell_read Row.Cst Column.Cst i
          ∷ fixed 9 32 (byte_fits 9 (omega arith)) i
          ∷ cell_read Row.Ld Column.Ld i ∷ cell_read Row.Ld Column.Cld i ∷ cell_read Row.Ld Column.St i ∷ cell_read Row.Ld Column.Cst i
          ∷ fixed 14 32 (byte_fits 14 (omega arith)) i
          ∷ cell_read Row.St Column.Ld i ∷ cell_read Row.St Column.Cld i ∷ cell_read Row.St Column.St i ∷ cell_read Row.St Column.Cst i
          ∷ fixed 19 10 (byte_fits 19 (omega arith)) i ∷ []
