-- Reading the text of a model, line by line: the reader goes through the model's own fences. Assumes nothing.
use Rattle.std.proofs.Common.{Result, Ok}
use Prim.Native.Nat.{ℕ, zero, suc, ◌+◌, ◌-◌, ◌≤◌, ◌<◌}
use mathlib.Core.Path.{◌≡◌, refl, sym, ap, ap₂, ◌∙◌}
use mathlib.Core.Bool.{Bool, cond}
use mathlib.Core.List.{List, [], ◌∷◌, ◌++◌, append_assoc, append-nil}
use native.Mathlib.Omega.{arith}
use native.Mathlib.Nat.{add-zero}
use borrow.Author.Tests.{eq-eqb}
use lib.Dec.{T, eqb}
use lib.ListN.{length, take, drop, get_or, length-append, length-drop, take-append-drop}
use lib.Seq.{drop-drop, drop_at, take_at, drop-cons, get_or-drop, take-suc, drop-length}
use Rattle.ground.specs.Bytes.{name_byte, bytes}
use Rattle.tables.specs.declared.table.Table.{Table}
use Rattle.tables.specs.Table.{Clean}
use Rattle.texts.specs.Step.{Step}
use Rattle.texts.specs.Language.{on_step}
use Rattle.texts.specs.NamePart.{NameFormed}
use Rattle.texts.proofs.Pattern.{followed, own_word}
use Rattle.texts.proofs.NamePart.{each_at, run_whole, name_found}
use Rattle.models.specs.declared.scan.Line.{Line}
use Rattle.models.specs.declared.model.Name.{Name}
use Rattle.models.specs.declared.reader.Progress.{Progress}
use Rattle.models.specs.Model.{Fence, Description, FenceFormed, Formed}
use Rattle.models.specs.Text.{table_part, fence_text, fences_text, head_text, text_of}
use Rattle.models.specs.Told.{filled, fence_of, name_of, line_stands, name_stands}
use Rattle.models.specs.inner.Lines.{table_pattern, then_line, line_end, ppo_at, head_from, fence_line_from}
use Rattle.models.specs.inner.Progress.{formless, on_line, started, with_fence, finished}
use Rattle.models.specs.Reading.{head_at, fence_at, name_in, table_in, fence_from, ended, lines_from, after_head, reading}
use Rattle.models.proofs.Steps.{lines_end, lines_fence, reading_within}
use Rattle.models.proofs.TableText.{part_follows, table_in_text}
use Rattle.models.proofs.Judgement.{feed, space}
use Rattle.models.proofs.Grammar.{line_texts, front, above}

-- the name in front of the byte after it
name_in_text : (n rest : List ℕ) (e : ℕ) → NameFormed n → (T (name_byte e) → ⊥) → name_in (n ++ (e ∷ rest)) ≡ filled n
unfolding name_in
name_in_text n rest e f not-name =
    ap filled (ap (λ (k : ℕ). take k (n ++ (e ∷ rest))) (run_whole 16 n rest e f.bytes f.few not-name) ∙ take_at n (e ∷ rest) (length n) refl)

-- what is left behind a part
past : (t a b : List ℕ) (at n : ℕ) → drop at t ≡ a ++ b → length a ≡ n → drop (at + n) t ≡ b
past t a b at n is long = sym (drop-drop n at t) ∙ ap (drop n) is ∙ drop_at a b n long

-- the name and the table that are read at their places
name_there : (t n rest : List ℕ) (e at : ℕ) → drop at t ≡ (n ++ (e ∷ [])) ++ rest → NameFormed n → (T (name_byte e) → ⊥)
    → name_in (drop at t) ≡ filled n
name_there t n rest e at is f not-name = ap name_in (is ∙ append_assoc n (e ∷ []) rest) ∙ name_in_text n rest e f not-name

table_there : (t tail : List ℕ) (x : Table) (at : ℕ) → drop at t ≡ table_part x ++ tail → Clean x → table_in (drop at t) ≡ x
table_there t tail x at is clean = ap table_in is ∙ table_in_text x tail clean

at_front : (t : List ℕ) (at : ℕ) → get_or t at 0 ≡ get_or (drop at t) 0 0
at_front t at = ap (λ (i : ℕ). get_or t i 0) (sym (add-zero at)) ∙ sym (get_or-drop at t 0 0)

-- a fence's line at a place of the text
module _ (t : List ℕ) (at : ℕ) (f : Fence) (tail : List ℕ) (h : FenceFormed f)
    (is : drop at t ≡ bytes "fence " ++ ((f.name ++ (32 ∷ [])) ++ (table_part f.table ++ tail))) where
  abbrev A : ℕ
  A = at + 6

  abbrev B : ℕ
  B = at + 6 + (length f.name + 1)

  abbrev C : ℕ
  C = at + 6 + (length f.name + 1) + 20

  at_name : drop A t ≡ (f.name ++ (32 ∷ [])) ++ (table_part f.table ++ tail)
  at_name = past t (bytes "fence ") _ at 6 is refl

  at_table : drop B t ≡ table_part f.table ++ tail
  at_table = past t (f.name ++ (32 ∷ [])) _ A (length f.name + 1) at_name (length-append f.name (32 ∷ []))

  fence_read : fence_at t at ≡ Ok (record { name = A; table = B; next = C })
  unfolding fence_at
  fence_read =
      ap (λ (s : Step). then_line s (fence_line_from t))
      (followed (bytes "fence ") t (bytes "fence ") ((f.name ++ (32 ∷ [])) ++ (table_part f.table ++ tail)) at is (own_word (bytes "fence ") tt))
      ∙ ap (λ (s : Step). then_line s (λ table. line_end t A table))
      (name_found t f.name (table_part f.table ++ tail) 32 A at_name h.name space)
      ∙ ap (λ (s : Step). then_line s (λ next. Ok (record { name = A; table = B; next = next })))
      (followed table_pattern t (table_part f.table) tail B at_table (part_follows f.table))

  fence_line : (n : ℕ) (p : Progress) → lines_from (suc n) t p at ≡ lines_from n t (with_fence p (filled f.name) A f.table) C
  fence_line n p =
      let begins : get_or t at 0 ≡ 102 = at_front t at ∙ ap (λ (s : List ℕ). get_or s 0 0) is in
      let one : suc n - 1 ≡ n = omega arith in
      lines_fence t p at (suc n) (omega arith) begins
      ∙ ap (λ (k : ℕ). on_line (fence_at t at) (λ line. lines_from k t (fence_from t p line) line.next)) one
      ∙ ap (λ (r : Result Line ℕ). on_line r (λ line. lines_from n t (fence_from t p line) line.next)) fence_read
      ∙ ap₂ (λ (x : Name) (y : Table). lines_from n t (with_fence p x A y) C)
      (name_there t f.name (table_part f.table ++ tail) 32 A at_name h.name space)
      (table_there t tail f.table B at_table h.table)

-- the last line
end_line : (t : List ℕ) (p : Progress) (at : ℕ) → at ≤ length t → drop at t ≡ bytes "end\n" → ended t p at ≡ finished p
unfolding ended
end_line t p at l is =
    let long : at + 4 ≡ length t = omega (arith, length-drop at t, ap length is) in
    ap (λ (s : Step). on_step formless s (λ past. cond (eqb past (length t)) (finished p) (formless past)))
    (followed (bytes "end\n") t (bytes "end\n") [] at is (own_word (bytes "end\n") tt))
    ∙ ap (λ (q : Bool). cond q (finished p) (formless (at + 4))) (eq-eqb _ _ long)

-- the two lines above the fences
module _ (t : List ℕ) (n : List ℕ) (x : Table) (tail : List ℕ) (named-well : NameFormed n) (clean : Clean x)
    (is : t ≡ bytes "model " ++ ((n ++ (10 ∷ [])) ++ (bytes "ppo " ++ (table_part x ++ tail)))) where
  abbrev N : ℕ
  N = 6 + (length n + 1)

  at_head_name : drop 6 t ≡ (n ++ (10 ∷ [])) ++ (bytes "ppo " ++ (table_part x ++ tail))
  at_head_name = ap (drop 6) is

  at_ppo : drop N t ≡ bytes "ppo " ++ (table_part x ++ tail)
  at_ppo = past t (n ++ (10 ∷ [])) _ 6 (length n + 1) at_head_name (length-append n (10 ∷ []))

  at_ppo_table : drop (N + 4) t ≡ table_part x ++ tail
  at_ppo_table = past t (bytes "ppo ") _ N 4 at_ppo refl

  head_read : head_at t ≡ Ok (record { name = 6; table = N + 4; next = N + 4 + 20 })
  unfolding head_at
  head_read =
      ap (λ (s : Step). then_line s (head_from t))
      (followed (bytes "model ") t (bytes "model ") ((n ++ (10 ∷ [])) ++ (bytes "ppo " ++ (table_part x ++ tail))) 0 is (own_word (bytes "model ") tt))
      ∙ ap (λ (s : Step). then_line s (λ past. ppo_at t 6 past))
      (name_found t n (bytes "ppo " ++ (table_part x ++ tail)) 10 6 at_head_name named-well feed)
      ∙ ap (λ (s : Step). then_line s (λ table. line_end t 6 table))
      (followed (bytes "ppo ") t (bytes "ppo ") (table_part x ++ tail) N at_ppo (own_word (bytes "ppo ") tt))
      ∙ ap (λ (s : Step). then_line s (λ next. Ok (record { name = 6; table = N + 4; next = next })))
      (followed table_pattern t (table_part x) tail (N + 4) at_ppo_table (part_follows x))

  head_lines : on_line (head_at t) (after_head t) ≡ lines_from 16 t (started (filled n) x) (N + 4 + 20)
  head_lines =
      ap (λ (r : Result Line ℕ). on_line r (after_head t)) head_read
      ∙ ap₂ (λ (y : Name) (z : Table). lines_from 16 t (started y z) (N + 4 + 20))
      (name_there t n (bytes "ppo " ++ (table_part x ++ tail)) 10 6 at_head_name named-well feed)
      (table_there t tail x (N + 4) at_ppo_table clean)

-- the fences' lines, part by part
pub fences_split : (xs ys : List Fence) → fences_text (xs ++ ys) ≡ fences_text xs ++ fences_text ys
fences_split [] ys = refl
fences_split (f ∷ xs) ys =
    ap (λ (l : List ℕ). fence_text f ++ l) (fences_split xs ys) ∙ sym (append_assoc (fence_text f) (fences_text xs) (fences_text ys))

pub fence_long : (f : Fence) → length (fence_text f) ≡ 6 + (length f.name + 1) + 20
fence_long f = omega (arith, length-append f.name (bytes " " ++ table_part f.table))

module _ (d : Description) where
  -- what the reader holds after k fences
  unfoldable pub pushed : ℕ → Progress
  pushed zero = started (filled d.name) d.ppo
  pushed (suc k) = with_fence (pushed k) (filled (name_of d k)) (name_stands d k) (fence_of d k).table

  -- the text up to the line of the fence k, and from there on
  text_split : (k : ℕ) → text_of d ≡ (head_text d ++ fences_text (take k d.fences)) ++ line_texts (drop k d.fences)
  text_split k =
      let done : List ℕ = fences_text (take k d.fences) in
      ap (λ (fs : List Fence). head_text d ++ (fences_text fs ++ bytes "end\n")) (sym (take-append-drop k d.fences))
      ∙ ap (λ (l : List ℕ). head_text d ++ (l ++ bytes "end\n")) (fences_split (take k d.fences) (drop k d.fences))
      ∙ ap (λ (l : List ℕ). head_text d ++ l) (append_assoc done (fences_text (drop k d.fences)) (bytes "end\n"))
      ∙ sym (append_assoc (head_text d) done (line_texts (drop k d.fences)))

  above_long : (k : ℕ) → length (head_text d ++ fences_text (take k d.fences)) ≡ line_stands d k
  above_long k = length-append (head_text d) (fences_text (take k d.fences))

  lines_left : (k : ℕ) → drop (line_stands d k) (text_of d) ≡ line_texts (drop k d.fences)
  lines_left k =
      ap (drop (line_stands d k)) (text_split k) ∙ drop_at (head_text d ++ fences_text (take k d.fences)) _ (line_stands d k) (above_long k)

  within : (k : ℕ) → line_stands d k ≤ length (text_of d)
  within k =
      let whole = length-append (head_text d ++ fences_text (take k d.fences)) (line_texts (drop k d.fences)) in
      omega (arith, above_long k, ap length (text_split k), whole)

  stands_next : (k : ℕ) → k < length d.fences → line_stands d k + 6 + (length (name_of d k) + 1) + 20 ≡ line_stands d (suc k)
  stands_next k l =
      let more : fences_text (take (suc k) d.fences) ≡ fences_text (take k d.fences) ++ (fence_text (fence_of d k) ++ []) =
      ap fences_text (take-suc d.fences k _ l) ∙ fences_split (take k d.fences) (fence_of d k ∷ []) in
      let sum = length-append (fences_text (take k d.fences)) (fence_text (fence_of d k) ++ []) in
      omega (arith, ap length more, sum, ap length (append-nil (fence_text (fence_of d k))), fence_long (fence_of d k))

  module _ (h : Formed d) where
    last_read : (k : ℕ) → k ≡ length d.fences → (p : Progress) (left : ℕ) → lines_from left (text_of d) p (line_stands d k) ≡ finished p
    last_read k e p left =
        let at : ℕ = line_stands d k in
        let is : drop at (text_of d) ≡ bytes "end\n" = lines_left k ∙ ap line_texts (ap (λ (n : ℕ). drop n d.fences) e ∙ drop-length d.fences) in
        let begins : get_or (text_of d) at 0 ≡ 101 = at_front (text_of d) at ∙ ap (λ (s : List ℕ). get_or s 0 0) is in
        lines_end (text_of d) p at left (λ z. omega arith) ∙ end_line (text_of d) p at (within k) is

    line_read : (k left : ℕ) → k < length d.fences → (p : Progress)
        → lines_from (suc left) (text_of d) p (line_stands d k)
        ≡ lines_from left (text_of d) (with_fence p (filled (name_of d k)) (name_stands d k) (fence_of d k).table) (line_stands d (suc k))
    line_read k left l p =
        let f : Fence = fence_of d k in
        let tail : List Fence = drop (suc k) d.fences in
        let is : drop (line_stands d k) (text_of d) ≡ bytes "fence " ++ ((f.name ++ (32 ∷ [])) ++ (table_part f.table ++ line_texts tail)) =
        lines_left k ∙ ap line_texts (drop-cons d.fences k _ l) ∙ sym (front f tail) in
        fence_line (text_of d) (line_stands d k) f (line_texts tail) (each_at FenceFormed d.fences _ h.each k l) is left p
        ∙ ap (λ (at : ℕ). lines_from left (text_of d) (with_fence p (filled (name_of d k)) (name_stands d k) f.table) at) (stands_next k l)

    lines_read : (more k : ℕ) → k + more ≡ length d.fences
        → lines_from (16 - k) (text_of d) (pushed k) (line_stands d k) ≡ finished (pushed (length d.fences))
    unfolding pushed
    lines_read zero k e =
        let all : k ≡ length d.fences = omega arith in
        last_read k all (pushed k) (16 - k) ∙ ap (λ (n : ℕ). finished (pushed n)) all
    lines_read (suc more) k e =
        let left : 16 - k ≡ suc (16 - suc k) = omega (arith, h.few) in
        ap (λ (n : ℕ). lines_from n (text_of d) (pushed k) (line_stands d k)) left
        ∙ line_read k (16 - suc k) (omega arith) (pushed k)
        ∙ lines_read more (suc k) (omega arith)

    -- reading the model's text comes to what the reader then holds
    pub text_read : length (text_of d) ≤ 1024 → reading (text_of d) ≡ finished (pushed (length d.fences))
    unfolding pushed
    text_read short =
        let long : 6 + (length d.name + 1) + 4 + 20 ≡ line_stands d 0 =
        omega (arith, length-append d.name (bytes "\n" ++ (bytes "ppo " ++ table_part d.ppo))) in
        reading_within (text_of d) short
        ∙ head_lines (text_of d) d.name d.ppo (line_texts d.fences) h.name h.ppo (sym (above d))
        ∙ ap (λ (at : ℕ). lines_from 16 (text_of d) (pushed 0) at) long
        ∙ lines_read (length d.fences) 0 (omega arith)
