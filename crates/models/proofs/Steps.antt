-- The lines of a model's text, one after another: where a name ends of which a line was read, and what is left to be read after a line.
-- Assumes nothing.
use Rattle.std.proofs.Common.{Ok, Err, Result}
use Prim.Native.Nat.{ℕ, zero, suc, ◌+◌, ◌-◌, ◌≤◌, ◌<◌}
use mathlib.Core.Path.{◌≡◌, refl, sym, ap, ap₂, subst, ◌∙◌}
use mathlib.Core.Bool.{Bool, cond}
use mathlib.Core.List.{List}
use native.Mathlib.Omega.{arith}
use borrow.Author.Tests.{eq-eqb, ne_eqb, lt-ltb, le-ltb}
use lib.ListN.{length, take, drop, get_or}
use Rattle.std.specs.Prelude.{Option}
use Rattle.ground.specs.Bytes.{bytes}
use Rattle.ground.proofs.Truths.{differ}
use Rattle.answers.specs.declared.Refusal.{Refusal}
use Rattle.tables.specs.declared.table.Table.{Table}
use Rattle.texts.specs.Step.{Step}
use Rattle.texts.specs.Pattern.{follow_at}
use Rattle.texts.specs.NamePart.{name_at}
use Rattle.texts.proofs.Pattern.{pattern_past}
use Rattle.texts.proofs.Steps.{name_past}
use Rattle.models.specs.declared.scan.Line.{Line}
use Rattle.models.specs.declared.model.Name.{Name}
use Rattle.models.specs.declared.model.Model.{Model}
use Rattle.models.specs.Told.{Reading, refusing}
use Rattle.models.specs.declared.reader.Progress.{Progress}
use Rattle.models.specs.inner.Lines.{table_pattern, then_line, line_end, ppo_at, head_from, fence_line_from, NameEnds}
use Rattle.models.specs.inner.Progress.{formless, on_line, repeat_place, stored, with_fence}
use Rattle.models.specs.Reading.{head_at, fence_at, name_in, table_in, fence_from, ended, lines_from, after_head, reading}

-- what the steps of a line have answered decides how the reader goes on
pub line_stuck : {r st : Result Line ℕ} {at : ℕ} {x : Reading} (more : Line → Reading) → r ≡ st → r ≡ Err at → x ≡ formless at
    → x ≡ on_line st more
line_stuck more e f is = is ∙ ap (λ (s : Result Line ℕ). on_line s more) (sym f ∙ e)

pub line_next : {r st : Result Line ℕ} {l : Line} {x : Reading} (more : Line → Reading) → r ≡ st → r ≡ Ok l → x ≡ more l → x ≡ on_line st more
line_next more e f is = is ∙ ap (λ (s : Result Line ℕ). on_line s more) (sym f ∙ e)

-- a line that was read, step by step
step_read : (st : Step) (more : ℕ → Result Line ℕ) (line : Line) → then_line st more ≡ Ok line
    → (n : ℕ) × (st ≡ Ok n) × (more n ≡ Ok line)
step_read (Ok n) more line h = (n, refl, h)
step_read (Err k) more line h = differ (cc)

module _ (t : List ℕ) (line : Line) where
  line_is : (name table : ℕ) → line_end t name table ≡ Ok line
      → (next : ℕ) × (record { name = name; table = table; next = next } ≡ line)
  line_is name table h =
      let a = step_read (follow_at table_pattern t table) (λ next. Ok (record { name = name; table = table; next = next })) line h in
      (a.0, taken a.2)
    where
      taken : {l : Line} → Path (Result Line ℕ) (Ok l) (Ok line) → l ≡ line
      taken e = cc

  pub fence_name : (at : ℕ) → fence_at t at ≡ Ok line → NameEnds t 1 line
  unfolding fence_at
  fence_name at h =
      let a = step_read (follow_at (bytes "fence ") t at) (fence_line_from t) line h in
      let b = step_read (name_at 32 t a.0) (λ table. line_end t a.0 table) line a.2 in
      let past = name_past 32 t a.0 b.0 b.1 in
      let ends : NameEnds t 1 (record { name = a.0; table = b.0; next = (line_is a.0 b.0 b.2).0 }) =
      record { above = omega (arith, past.0); run = omega (arith, past.0); within = omega (arith, past.1) } in
      subst (NameEnds t 1) (line_is a.0 b.0 b.2).1 ends

  pub head_name : head_at t ≡ Ok line → NameEnds t 5 line
  unfolding head_at
  head_name h =
      let a = step_read (follow_at (bytes "model ") t 0) (head_from t) line h in
      let b = step_read (name_at 10 t a.0) (λ past. ppo_at t a.0 past) line a.2 in
      let c = step_read (follow_at (bytes "ppo ") t b.0) (λ table. line_end t a.0 table) line b.2 in
      let past = name_past 10 t a.0 b.0 b.1 in
      let four : b.0 + 4 ≡ c.0 = pattern_past (bytes "ppo ") t b.0 c.0 c.1 in
      let ends : NameEnds t 5 (record { name = a.0; table = c.0; next = (line_is a.0 c.0 c.2).0 }) =
      record { above = omega (arith, past.0); run = omega (arith, past.0); within = omega (arith, past.1) } in
      subst (NameEnds t 5) (line_is a.0 c.0 c.2).1 ends

-- one line more, or the last one
module _ (t : List ℕ) (p : Progress) (here : ℕ) where
  pub lines_last : (left : ℕ) → left ≤ 0 → lines_from left t p here ≡ ended t p here
  unfolding lines_from
  lines_last left h =
      let z : left ≡ 0 = omega arith in
      ap (λ (n : ℕ). lines_from n t p here) z

  pub lines_end : (left : ℕ) → (get_or t here 0 ≡ 102 → ⊥) → lines_from left t p here ≡ ended t p here
  unfolding lines_from
  lines_end zero h = refl
  lines_end (suc n) h = rw (ne_eqb _ _ h)

  pub lines_fence : (left : ℕ) → 0 < left → get_or t here 0 ≡ 102
      → lines_from left t p here ≡ on_line (fence_at t here) (λ line. lines_from (left - 1) t (fence_from t p line) line.next)
  unfolding lines_from
  lines_fence left l h =
      let n : ℕ = left - 1 in
      let e : left ≡ suc n = omega arith in
      ap (λ (k : ℕ). lines_from k t p here) e
      ∙ ap
      (λ (q : Bool).
      cond q (on_line (fence_at t here) (λ line. lines_from n t (fence_from t p line) line.next)) (ended t p here))
      (eq-eqb _ _ h)

-- what is stored of the line of the fence k
pub fence_stored : (t : List ℕ) (p : Progress) (k : ℕ) (line : Line) {name : Name} {table : Table} {place : Option ℕ}
    → p.model.fences ≡ k → name ≡ name_in (drop line.name t) → table ≡ table_in (drop line.table t)
    → place ≡ repeat_place p.repeat name (take k p.model.names) line.name
    → record { model = stored p.model k name table; repeat = place } ≡ fence_from t p line
fence_stored t p k line {name} {table} count n b r =
    let m : Model = p.model in
    let first = r ∙ ap (λ (j : ℕ). repeat_place p.repeat name (take j m.names) line.name) (sym count) in
    ap₂ (λ (j : ℕ) (q : Option ℕ). record { model = stored m j name table; repeat = q }) (sym count) first
    ∙ ap₂ (λ (x : Name) (y : Table). with_fence p x line.name y) n b

pub reading_over : (t : List ℕ) → 1024 < length t → reading t ≡ refusing Refusal.OverLimit
unfolding reading
reading_over t l = rw (lt-ltb 1024 (length t) l)

pub reading_within : (t : List ℕ) → length t ≤ 1024 → reading t ≡ on_line (head_at t) (after_head t)
unfolding reading
reading_within t l = rw (le-ltb 1024 (length t) l)
