-- A text of the form, as Form says it, is one that is put together from the parts that the reader follows. Assumes nothing.
use Prim.Native.Nat.{ℕ, zero, suc, ◌≤◌, suc-le-suc}
use mathlib.Core.Path.{◌≡◌, refl, sym, ap, ap₂, ◌∙◌, subst}
use mathlib.Core.List.{List, [], ◌∷◌, ◌++◌, append_assoc}
use mathlib.Core.Logic.{inl, inr}
use native.Mathlib.Omega.{arith}
use native.Mathlib.Nat.{le_of_suc-le-suc}
use lib.ListN.{length}
use Rattle.ground.specs.Bytes.{bytes}
use Rattle.tables.specs.Table.{Clean}
use Rattle.tables.proofs.Laws.{table_clean}
use Rattle.models.specs.Model.{Fence, Description, FenceFormed}
use Rattle.texts.specs.NamePart.{Each, Ended}
use Rattle.models.specs.Text.{table_part, fence_text, fences_text, text_of}
use Rattle.models.specs.Form.{Form}
use Rattle.models.specs.Reading.{table_in}
use Rattle.texts.proofs.Language.{seq_join, seq_apart}
use Rattle.texts.specs.Pattern.{Follows}
use Rattle.texts.proofs.Pattern.{same_word, own_word}
use Rattle.models.specs.inner.Parts.{TablePart, TableThen, FenceName, FenceThen, Lines, PpoForm, NameForm, TextForm}
use Rattle.models.proofs.TableText.{part_follows, text_of_table}

abbrev Held : (List Fence → List ℕ) → ℕ → List ℕ → Type 0
Held text n t = (fs : List Fence) × (length fs ≤ n) × Each FenceFormed fs × (t ≡ text fs)

abbrev pub line_texts : List Fence → List ℕ
line_texts fs = fences_text fs ++ bytes "end\n"

-- a fence's line in front of the others
pub front : (f : Fence) (fs : List Fence)
    → bytes "fence " ++ ((f.name ++ (32 ∷ [])) ++ (table_part f.table ++ line_texts fs)) ≡ line_texts (f ∷ fs)
front f fs =
    let tail : List ℕ = line_texts fs in
    let part : List ℕ = table_part f.table in
    ap (λ (l : List ℕ). bytes "fence " ++ l) (append_assoc f.name (32 ∷ []) (part ++ tail) ∙ sym (append_assoc f.name (bytes " " ++ part) tail))
    ∙ sym (append_assoc (fence_text f) (fences_text fs) (bytes "end\n"))

-- a table's part holds a table
part_is : (a : List ℕ) → TablePart a → a ≡ table_part (table_in a)
part_is a f = sym (text_of_table a f)

clean_in : (a : List ℕ) → Clean (table_in a)
unfolding table_in
clean_in a = table_clean _

-- two parts of a text, each known
both : {t a b a' b' : List ℕ} → t ≡ a ++ b → a ≡ a' → b ≡ b' → t ≡ a' ++ b'
both e x y = e ∙ ap₂ (λ (u v : List ℕ). u ++ v) x y

lines_more : (n : ℕ) (t : List ℕ) → ((s : List ℕ) → Lines n s → Held line_texts n s) → FenceThen (Lines n) t → Held line_texts (suc n) t
lines_more n t rest x =
    let p = seq_apart (Follows (bytes "fence ")) (FenceName (Lines n)) t x in
    let q = seq_apart (Ended 32) (TableThen (Lines n)) p.1 p.4 in
    let r = seq_apart TablePart (Lines n) q.1 q.4 in
    let s = rest r.1 r.4 in
    let f : Fence = record { name = q.3.0; table = table_in r.0 } in
    let word = same_word (bytes "fence ") p.0 tt p.3 in (
      f ∷ s.0,
      suc-le-suc s.1,
      (record { name = q.3.1; table = clean_in r.0 }, s.2),
      both p.2 word (both q.2 q.3.2 (both r.2 (part_is r.0 r.3) s.3)) ∙ front f s.0,
    )

lines_to : (n : ℕ) (t : List ℕ) → Lines n t → Held line_texts n t
lines_to zero t f = ([], omega arith, tt, same_word (bytes "end\n") t tt f)
lines_to (suc n) t (inr f) = ([], omega arith, tt, same_word (bytes "end\n") t tt f)
lines_to (suc n) t (inl x) = lines_more n t (lines_to n) x

lines_back : (n : ℕ) (fs : List Fence) → length fs ≤ n → Each FenceFormed fs → Lines n (line_texts fs)
lines_back zero [] l h = own_word (bytes "end\n") tt
lines_back (suc n) [] l h = inr (own_word (bytes "end\n") tt)
lines_back zero (f ∷ fs) l h = absurd (omega arith)
lines_back (suc n) (f ∷ fs) l h =
    inl (subst (FenceThen (Lines n)) (front f fs)
    (seq_join (Follows (bytes "fence ")) (FenceName (Lines n)) (bytes "fence ") _ (own_word (bytes "fence ") tt)
    (seq_join (Ended 32) (TableThen (Lines n)) (f.name ++ (32 ∷ [])) _ (f.name, h.0.name, refl)
    (seq_join TablePart (Lines n) (table_part f.table) (line_texts fs) (part_follows f.table) (lines_back n fs (le_of_suc-le-suc l) h.1)))))

-- the two lines above
pub above : (d : Description)
    → bytes "model " ++ ((d.name ++ (10 ∷ [])) ++ (bytes "ppo " ++ (table_part d.ppo ++ line_texts d.fences))) ≡ text_of d
above d =
    let tail : List ℕ = line_texts d.fences in
    let part : List ℕ = table_part d.ppo in
    ap (λ (l : List ℕ). bytes "model " ++ l)
    (append_assoc d.name (10 ∷ []) (bytes "ppo " ++ (part ++ tail)) ∙ sym (append_assoc d.name (bytes "\n" ++ (bytes "ppo " ++ part)) tail))

pub text_to : (t : List ℕ) → TextForm t → Form t
text_to t x =
    let p = seq_apart (Follows (bytes "model ")) NameForm t x in
    let q = seq_apart (Ended 10) PpoForm p.1 p.4 in
    let r = seq_apart (Follows (bytes "ppo ")) (TableThen (Lines 16)) q.1 q.4 in
    let u = seq_apart TablePart (Lines 16) r.1 r.4 in
    let s = lines_to 16 u.1 u.4 in
    let d : Description = record { name = q.3.0; ppo = table_in u.0; fences = s.0 } in
    let table = both u.2 (part_is u.0 u.3) s.3 in
    let ppo = both r.2 (same_word (bytes "ppo ") r.0 tt r.3) table in (
      d,
      record { name = q.3.1; ppo = clean_in u.0; few = s.1; each = s.2 },
      both p.2 (same_word (bytes "model ") p.0 tt p.3) (both q.2 q.3.2 ppo) ∙ above d,
    )

pub text_back : (t : List ℕ) → Form t → TextForm t
text_back t (d, h, e) =
    let lines = lines_back 16 d.fences h.few h.each in
    subst TextForm (above d ∙ sym e)
    (seq_join (Follows (bytes "model ")) NameForm (bytes "model ") _ (own_word (bytes "model ") tt)
    (seq_join (Ended 10) PpoForm (d.name ++ (10 ∷ [])) _ (d.name, h.name, refl)
    (seq_join (Follows (bytes "ppo ")) (TableThen (Lines 16)) (bytes "ppo ") _ (own_word (bytes "ppo ") tt)
    (seq_join TablePart (Lines 16) (table_part d.ppo) (line_texts d.fences) (part_follows d.ppo) lines))))
