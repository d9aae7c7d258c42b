-- The constant tables hold document 01's built-in models: one computed test over all rows. Assumes nothing.
use Prim.Native.Nat.{ℕ, zero, suc, ◌%◌, ◌<◌}
use mathlib.Core.Path.{◌≡◌, refl, sym, ap, ◌∙◌}
use mathlib.Core.List.{List, [], ◌∷◌, map}
use mathlib.Core.Bool.{Bool, true, false, cond}
use native.Mathlib.Omega.{arith}
use native.Mathlib.Nat.{le_of_suc-le-suc}
use borrow.Author.Tests.{lt-ltb, le-ltb}
use lib.Dec.{ltb}
use lib.ListN.{get_or, set, get_or-map}
use Rattle.answers.specs.declared.Refusal.{Refusal}
use Rattle.tables.specs.Table.{table}
use Rattle.models.specs.declared.model.Name.{Name}
use Rattle.models.specs.declared.model.Model.{Model}
use Rattle.models.specs.Reading.{table_in}
use Rattle.models.specs.Told.{held, bare, accepting, refusing}
use Rattle.built_ins.specs.inner.Numbers.{number, name_bytes, model_numbers, name_from, model_from}
use Rattle.built_ins.specs.BuiltIns.{four_rows, under, none, model, built_ins, built_in, built_in_reading}

-- what a function gives at 0 up to n
up_to : {A : Type 0} → ℕ → (ℕ → A) → List A
up_to zero f = []
up_to (suc n) f = f 0 ∷ up_to n (λ i. f (suc i))

up_to_at : {A : Type 0} (n : ℕ) (f : ℕ → A) (d : A) (i : ℕ) → i < n → get_or (up_to n f) i d ≡ f i
unfolding up_to
up_to_at zero f d i l = absurd (omega arith)
up_to_at (suc n) f d zero l = refl
up_to_at (suc n) f d (suc i) l = up_to_at n (λ i. f (suc i)) d i (le_of_suc-le-suc l)

-- the test: row for row the table holds 01's models
all_rows : up_to 16 model_from ≡ map held built_ins
unfolding up_to model_from name_from name_bytes model_numbers built_ins four_rows under table_in table
all_rows = refl

pub row_is : (n : ℕ) → n < 16 → model_from n ≡ held (built_in n)
unfolding built_in
row_is n l =
    sym (up_to_at 16 model_from (held (model "" none [])) n l)
    ∙ ap (λ (ms : List Model). get_or ms n (held (model "" none []))) all_rows
    ∙ get_or-map held built_ins n (model "" none [])

-- a bare model with the three fences of a row
module _ (n : ℕ) (m : Model) (first second third : Name) where
  pub row_filled : m ≡ bare (name_from (number n 0 % 16)) (record { packed = number n 1 }) → first ≡ name_from (number n 3 % 16)
      → second ≡ name_from (number n 5 % 16) → third ≡ name_from (number n 7 % 16)
      → ◌≡◌ {A = Model} record {
        ppo = m.ppo;
        fences = number n 2;
        tables = set (set (set m.tables 0 (number n 4)) 1 (number n 6)) 2 (number n 8);
        name = m.name;
        names = set (set (set m.names 0 first) 1 second) 2 third;
      } (model_from n)
  unfolding model_from
  row_filled em e1 e2 e3 = λ i. record {
    ppo = (em i).ppo;
    fences = number n 2;
    tables = set (set (set (em i).tables 0 (number n 4)) 1 (number n 6)) 2 (number n 8);
    name = (em i).name;
    names = set (set (set (em i).names 0 (e1 i)) 1 (e2 i)) 2 (e3 i);
  }

-- what a number is answered
reading_by : (n : ℕ) (q : Bool) → ltb 15 n ≡ q → built_in_reading n ≡ cond q (refusing Refusal.OutOfRange) (accepting (held (built_in n)))
unfolding built_in_reading
reading_by n q e = rw e

pub answered : (n : ℕ) (m : Model) → n < 16 → m ≡ model_from n → accepting m ≡ built_in_reading n
answered n m l e = ap accepting (e ∙ row_is n l) ∙ sym (reading_by n false (le-ltb 15 n (omega arith)))

pub out_of_range : (n : ℕ) → 15 < n → refusing Refusal.OutOfRange ≡ built_in_reading n
out_of_range n l = sym (reading_by n true (lt-ltb 15 n l))
