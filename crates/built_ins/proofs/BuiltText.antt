-- What is written of a built-in model is its text. Assumes nothing.
use Prim.Native.Nat.{ℕ, ◌<◌}
use mathlib.Core.Path.{◌≡◌, refl, sym, ap, ◌∙◌}
use mathlib.Core.List.{List, [], map}
use native.Mathlib.Omega.{arith}
use native.Mathlib.Decide.{dec_lt}
use lib.ListN.{get_or, get_or-map}
use Rattle.ground.proofs.Truths.{differ}
use Rattle.answers.specs.declared.Refusal.{Refusal}
use Rattle.tables.specs.Table.{table}
use Rattle.models.specs.declared.model.Model.{Model}
use Rattle.models.specs.Model.{Description}
use Rattle.models.specs.Text.{text_of}
use Rattle.models.specs.Reading.{table_in}
use Rattle.models.specs.Told.{held, accepting, refusing}
use Rattle.printing.specs.Name.{unfilled}
use Rattle.writing.specs.Writing.{fences_of, described}
use Rattle.writing.specs.Calls.{text_given, reading_given}
use Rattle.writing.proofs.WrittenBack.{given_settled}
use Rattle.built_ins.specs.BuiltIns.{four_rows, under, none, model, built_ins, built_in, built_in_reading}
use Rattle.built_ins.proofs.BuiltIns.{row_is, answered, out_of_range}

-- what is held of a built-in model is the model: one computed test over all of them
all_described : map (λ (d : Description). described (held d)) built_ins ≡ built_ins
unfolding built_ins four_rows under table_in table unfilled fences_of
all_described = refl

built_described : (n : ℕ) → described (held (built_in n)) ≡ built_in n
unfolding built_in four_rows under table_in table unfilled fences_of
built_described n =
    sym (get_or-map (λ (d : Description). described (held d)) built_ins n (model "" none []))
    ∙ ap (λ (l : List Description). get_or l n (model "" none [])) all_described

built_back : (n : ℕ) (m : Model) → built_in_reading n ≡ accepting m → text_of (described m) ≡ text_of (built_in n)
built_back n m e = by (dec_lt 15 n)
  where
    by : Dec (15 < n) → text_of (described m) ≡ text_of (built_in n)
    by (yes l) =
        let v : refusing Refusal.OutOfRange ≡ accepting m = out_of_range n l ∙ e in
        differ (cc)
    by (no g) =
        let v : accepting (held (built_in n)) ≡ accepting m = answered n (held (built_in n)) (omega arith) (sym (row_is n (omega arith))) ∙ e in
        let same : held (built_in n) ≡ m = cc in
        ap (λ (x : Model). text_of (described x)) (sym same) ∙ ap text_of (built_described n)

pub given_built : (n : ℕ) → reading_given (built_in_reading n) ≡ text_given (built_in_reading n) (text_of (built_in n))
given_built n = given_settled (built_in_reading n) (text_of (built_in n)) (built_back n)
