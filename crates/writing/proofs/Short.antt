-- No model's text has more than 739 bytes: a name has at most sixteen, and there are at most sixteen fences. Of a value in memory this is its
-- type. Assumes nothing.
use Prim.Native.Nat.{ℕ, zero, suc, ◌*◌, ◌≤◌}
use mathlib.Core.Path.{◌≡◌}
use mathlib.Core.List.{List, [], ◌∷◌, ◌++◌}
use native.Mathlib.Omega.{arith}
use denote.Array.{each}
use denote.Shadow.{shadow}
use denote.Struct.Declared.{row}
use lib.ListN.{length, length-append}
use Rattle.ground.specs.Bytes.{bytes}
use Rattle.printing.proofs.Names.{unfilled_short}
use Rattle.models.specs.declared.model.Name.{Name}
use Rattle.models.specs.declared.model.Model.{Model}
use Rattle.models.specs.Model.{Fence, Description, FenceFormed, Formed}
use Rattle.models.specs.Text.{table_part, fence_text, fences_text, head_text, text_of}
use Rattle.models.proofs.Reread.{fence_long}
use Rattle.texts.specs.NamePart.{Each}
use Rattle.models.specs.contracts.model.Name as name
use Rattle.models.specs.contracts.model.Model as model
use Rattle.writing.specs.Writing.{fences_of, described}
use mir.Val.{Val}

-- names of at most sixteen bytes, and at most sixteen fences
record Bounded (d : Description) : Type 0 where
  name : length d.name ≤ 16
  few : length d.fences ≤ 16
  each_name : Each (λ (f : Fence). length f.name ≤ 16) d.fences

lines_short : (fs : List Fence) → Each (λ (f : Fence). length f.name ≤ 16) fs → length (fences_text fs) ≤ 43 * length fs
lines_short [] h = omega arith
lines_short (f ∷ fs) h = omega (arith, lines_short fs h.1, fence_long f, h.0, length-append (fence_text f) (fences_text fs))

short : (d : Description) → Bounded d → length (text_of d) ≤ 739
short d h =
    omega (
      arith,
      lines_short d.fences h.each_name,
      h.few,
      h.name,
      length-append d.name (bytes "\n" ++ (bytes "ppo " ++ table_part d.ppo)),
      length-append (fences_text d.fences) (bytes "end\n"),
      length-append (head_text d) (fences_text d.fences ++ bytes "end\n"),
    )

-- a model's own text
pub text_short : (d : Description) → Formed d → length (text_of d) ≤ 739
text_short d h = short d (record { name = h.name.few; few = h.few; each_name = names d.fences h.each })
  where
    names : (fs : List Fence) → Each FenceFormed fs → Each (λ (f : Fence). length f.name ≤ 16) fs
    names [] h = tt
    names (f ∷ fs) h = (h.0.name.few, names fs h.1)

-- the text of a value in memory: its arrays have sixteen elements each
Sixteen : Name → Type 0
Sixteen n = length n.bytes ≡ 16

names_sixteen : (names : List Name) (us : List Val)
    → shadow (each Name (row name.the_type).own_val names us) → Each Sixteen names
unfolding Sixteen
names_sixteen [] us h = tt
names_sixteen (n ∷ names) [] h = absurd h
names_sixteen (n ∷ names) (u ∷ us) h = (h.0.1.1.0.1.0.1, names_sixteen names us h.1)

fences_few : (k : ℕ) (names : List Name) (tables : List ℕ) → length (fences_of k names tables) ≤ length names
unfolding fences_of
fences_few zero names tables = omega arith
fences_few (suc k) [] tables = omega arith
fences_few (suc k) (n ∷ names) [] = omega arith
fences_few (suc k) (n ∷ names) (t ∷ tables) = omega (arith, fences_few k names tables)

fences_small : (k : ℕ) (names : List Name) (tables : List ℕ) → Each Sixteen names
    → Each (λ (f : Fence). length f.name ≤ 16) (fences_of k names tables)
unfolding fences_of Sixteen
fences_small zero names tables h = tt
fences_small (suc k) [] tables h = tt
fences_small (suc k) (n ∷ names) [] h = tt
fences_small (suc k) (n ∷ names) (t ∷ tables) h = (omega (arith, unfilled_short n.bytes, h.0), fences_small k names tables h.1)

pub held_short : (m : Model) (vs : List Val) → shadow ((row model.the_type).own_val m vs) → length (text_of (described m)) ≤ 739
held_short m vs h =
    let name = h.1.1.1.1.1.0 in
    let names = h.1.1.1.1.1.1.0 in
    let many : length m.names ≡ 16 = names.1.0.1 in
    short (described m) (record {
      name = omega (arith, unfilled_short m.name.bytes, (name).1.1.0.1.0.1);
      few = omega (arith, fences_few m.fences m.names m.tables, many);
      each_name = fences_small m.fences m.names m.tables (names_sixteen m.names names.0 names.1.1);
    })
