-- What the reader takes out of a text, byte by byte: a name, a table, whether two names are the same. Assumes nothing.
use Prim.Native.Nat.{ℕ, ◌+◌, ◌*◌, ◌/◌, ◌<◌}
use mathlib.Core.Path.{◌≡◌, sym, ap, ◌∙◌}
use mathlib.Core.List.{List}
use native.Mathlib.Omega.{arith}
use native.Mathlib.Decide.{ℕ_discrete}
use lib.ListN.{length, get_or, set}
use lib.Seq.{get_or-set_same, get_or-set_other}
use Rattle.tables.specs.Strength.{level_of}
use Rattle.tables.specs.Table.{place, row_number, column_number, levels_table}
use Rattle.tables.proofs.Laws.{table_cong, row_below, column_below}
use Rattle.models.specs.Reading.{table_in}

-- one element more is stored where f says what each is
pub stored_more : (l : List ℕ) (i x : ℕ) (f : ℕ → ℕ) → i < length l → x ≡ f i → ((j : ℕ) → j < i → get_or l j 0 ≡ f j)
    → (j : ℕ) → j < i + 1 → get_or (set l i x) j 0 ≡ f j
stored_more l i x f li is h j lj = by (ℕ_discrete j i)
  where
    by : Dec (j ≡ i) → get_or (set l i x) j 0 ≡ f j
    by (yes e) = ap (λ (k : ℕ). get_or (set l i x) k 0) e ∙ get_or-set_same l i x 0 li ∙ is ∙ ap f (sym e)
    by (no n) = get_or-set_other l i j x 0 n ∙ h j (omega arith)

-- levels in the order of the text are its table
pub levels_read : (s levels : List ℕ) → ((j : ℕ) → j < 16 → get_or levels j 0 ≡ level_of (get_or s (j + j / 4) 0)) → levels_table levels ≡ table_in s
unfolding levels_table table_in
levels_read s levels h = table_cong _ _ λ r c.
    let low = row_below r in
    let narrow = column_below c in
    let e : place r c + place r c / 4 ≡ 5 * row_number r + column_number c = omega arith in
    h (place r c) (omega arith) ∙ ap (λ (i : ℕ). level_of (get_or s i 0)) e
