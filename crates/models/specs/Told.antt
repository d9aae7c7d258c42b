-- Document 01, "Numbers and refusals", for a model's text: refusal 1 "a text .. is over its limit" (1,024 bytes), 2 "a text is not of the
-- form", 3 "a fence name repeats", at the "first byte of the earliest fence name equal to one above it"; "upstream text (1, 2, 3)" is their
-- order. `Told` is what a reader must believe: these words, of which each text meets one (proofs/Unique).
use Rattle.std.specs.Prelude.{ℕ, ◌+◌, ◌-◌, ◌≤◌, ◌<◌, ◌≡◌, List, [], ◌++◌, map, length, get_or, take, replicate, Result, Ok, Err}
use Rattle.answers.specs.declared.Refusal.{Refusal}
use Rattle.tables.specs.declared.table.Table.{Table}
use Rattle.texts.specs.Language.{Longest}
use Rattle.models.specs.declared.model.Name.{Name}
use Rattle.models.specs.declared.model.Model.{Model}
use Rattle.models.specs.Model.{Fence, Description, Formed}
use Rattle.models.specs.Text.{head_text, fences_text, text_of}
use Rattle.models.specs.Form.{Form}

-- how a model is held in memory: a name filled up with zeros, and nothing past the last fence
abbrev pub padded : {A : Type 0} → A → List A → List A
padded x l = l ++ replicate (16 - length l) x

abbrev pub filled : List ℕ → Name
filled n = record { bytes = padded 0 n }

abbrev pub held_name : Fence → Name
held_name f = filled f.name

abbrev pub packed_of : Fence → ℕ
packed_of f = f.table.packed

abbrev pub held : Description → Model
held d = record {
  ppo = d.ppo;
  fences = length d.fences;
  tables = padded 0 (map packed_of d.fences);
  name = filled d.name;
  names = padded (filled []) (map held_name d.fences);
}

-- a model without fences
abbrev pub bare : Name → Table → Model
bare name ppo = record { ppo = ppo; fences = 0; tables = replicate 16 0; name = name; names = replicate 16 (filled []) }

-- what reading a text gives
abbrev pub Reading : Type 0
Reading = Result Model Refusal

abbrev pub accepting : Model → Reading
accepting m = Ok m

abbrev pub refusing : Refusal → Reading
refusing why = Err why

-- the fence k, where its line begins in the text, and where its name stands there: behind the word `fence `
abbrev pub no_fence : Fence
no_fence = record { name = []; table = record { packed = 0 } }

abbrev pub fence_of : Description → ℕ → Fence
fence_of d k = get_or d.fences k no_fence

abbrev pub name_of : Description → ℕ → List ℕ
name_of d k = (fence_of d k).name

abbrev pub line_stands : Description → ℕ → ℕ
line_stands d k = length (head_text d) + length (fences_text (take k d.fences))

abbrev pub name_stands : Description → ℕ → ℕ
name_stands d k = line_stands d k + 6

-- the name of the fence k equals one above it
abbrev pub Repeats : Description → ℕ → Type 0
Repeats d k = (i : ℕ) × (i < k) × (name_of d i ≡ name_of d k)

pub record EarliestRepeat (d : Description) (k : ℕ) : Type 0 where
  pub within : k < length d.fences
  pub repeats : Repeats d k
  pub earliest : (j : ℕ) → j < k → Repeats d j → ⊥

abbrev pub Distinct : Description → Type 0
Distinct d = (k : ℕ) → k < length d.fences → Repeats d k → ⊥

-- what 01 says of reading the text t
pub data Told (t : List ℕ) : Reading → Type 0 where
  over : 1024 < length t → Told t (refusing Refusal.OverLimit)
  departs : {k : ℕ} → length t ≤ 1024 → (Form t → ⊥) → Longest Form t k → Told t (refusing (Refusal.NotOfTheForm k))
  repeated : (d : Description) (k : ℕ) → length t ≤ 1024 → Formed d → t ≡ text_of d → EarliestRepeat d k
      → Told t (refusing (Refusal.FenceNameRepeats (name_stands d k)))
  accepted : (d : Description) → length t ≤ 1024 → Formed d → t ≡ text_of d → Distinct d → Told t (accepting (held d))
