-- The lines of a model's fences, put one behind another. Assumes nothing.
use Prim.Native.Nat.{ℕ, zero, suc, ◌+◌, ◌-◌, ◌≤◌, ◌<◌, min}
use native.Mathlib.Decide.{dec_le}
use mathlib.Core.Path.{◌≡◌, refl, sym, ap, ap₂, ◌∙◌}
use mathlib.Core.List.{List, [], ◌∷◌, ◌++◌, append-nil}
use native.Mathlib.Numerals.{add-one}
use native.Mathlib.Nat.{suc-add, le_of_suc-le-suc}
use native.Mathlib.Omega.{arith}
use lib.ListN.{length, take, get_or, length-take}
use Rattle.std.specs.List.{zip}
use Rattle.std.proofs.lemmas.List.{get_or-take}
use Rattle.std.proofs.lemmas.Slice.Zip.{get_or-zip, length-zip}
use Rattle.printing.specs.Name.{unfilled}
use Rattle.printing.specs.Putting.{Put}
use Rattle.printing.proofs.Putting.{put_is, put_then}
use Rattle.models.specs.declared.model.Name.{Name}
use Rattle.models.specs.Model.{Fence}
use Rattle.models.specs.Text.{fence_text, fences_text}
use Rattle.models.proofs.Reread.{fences_split}
use Rattle.writing.specs.Writing.{fences_of}

-- the fence at a place of a model in memory
abbrev pub fence : Name → ℕ → Fence
fence name packed = record { name = unfilled name.bytes; table = record { packed = packed } }

abbrev pub held_fence : List Name → List ℕ → Name → ℕ → ℕ → Fence
held_fence names tables d e k = fence (get_or names k d) (get_or tables k e)

fences-suc : (k : ℕ) (names : List Name) (tables : List ℕ) (d : Name) (e : ℕ) → k < length names → k < length tables
    → fences_of (suc k) names tables ≡ fences_of k names tables ++ (held_fence names tables d e k ∷ [])
unfolding fences_of
fences-suc zero [] tables d e ln lt = absurd (omega arith)
fences-suc zero (n ∷ names) [] d e ln lt = absurd (omega arith)
fences-suc zero (n ∷ names) (t ∷ tables) d e ln lt = refl
fences-suc (suc k) [] tables d e ln lt = absurd (omega arith)
fences-suc (suc k) (n ∷ names) [] d e ln lt = absurd (omega arith)
fences-suc (suc k) (n ∷ names) (t ∷ tables) d e ln lt =
    ap (λ (l : List Fence). fence n t ∷ l)
    (fences-suc k names tables d e (le_of_suc-le-suc ln) (le_of_suc-le-suc lt))

-- there are no more fences than names
fences_cap : (k more : ℕ) (names : List Name) (tables : List ℕ) → length names ≤ k → fences_of (k + more) names tables ≡ fences_of k names tables
unfolding fences_of
fences_cap k more [] tables l = none (k + more) ∙ sym (none k)
  where
    none : (n : ℕ) → fences_of n [] tables ≡ []
    none zero = refl
    none (suc n) = refl
fences_cap zero more (n ∷ names) tables l = absurd (omega arith)
fences_cap (suc k) more (n ∷ names) [] l = rw suc-add
fences_cap (suc k) more (n ∷ names) (t ∷ tables) l =
    ap (λ (i : ℕ). fences_of i (n ∷ names) (t ∷ tables)) (suc-add k more)
    ∙ ap (λ (x : List Fence). record { name = unfilled n.bytes; table = record { packed = t } } ∷ x)
    (fences_cap k more names tables (le_of_suc-le-suc l))

-- one line more, and the end
module _ (names : List Name) (tables : List ℕ) where
  line_put : {a b c : List ℕ} {at r s : ℕ} (k : ℕ) (d : Name) (e : ℕ) → k < length names → k < length tables
      → Put a b at r (fences_text (fences_of k names tables)) → Put b c r s (fence_text (held_fence names tables d e k))
      → Put a c at s (fences_text (fences_of (k + 1) names tables))
  line_put k d e ln lt p q =
      let f : Fence = held_fence names tables d e k in
      put_is
      (ap (λ (l : List ℕ). fences_text (fences_of k names tables) ++ l) (sym (append-nil (fence_text f)))
      ∙ sym (fences_split (fences_of k names tables) (f ∷ []))
      ∙ ap fences_text (sym (ap (λ (n : ℕ). fences_of n names tables) (add-one k) ∙ fences-suc k names tables d e ln lt)))
      (put_then p q)

  -- the line of the next name and the next table, side by side
  pub line_next : {a b c : List ℕ} {at r s : ℕ} (n k : ℕ) (d : Name) (e : ℕ) → k < length (take n (zip names tables))
      → ◌≡◌ {A = Name × ℕ} (d, e) (get_or (take n (zip names tables)) k (d, e))
      → Put a b at r (fences_text (fences_of k names tables)) → Put b c r s (fence_text (fence d e))
      → Put a c at s (fences_text (fences_of (k + 1) names tables))
  line_next n k d e l is p q =
      line_put k d e ln lt p
      (put_is (ap₂ (λ (m : Name) (t : ℕ). fence_text (fence m t)) (λ i. (own i).0) (λ i. (own i).1)) q)
    where
      fewer : k < min n (length (zip names tables))
      fewer = omega (arith, l, length-take n (zip names tables))

      ln : k < length names
      ln = omega (arith, fewer, length-zip names tables)

      lt : k < length tables
      lt = omega (arith, fewer, length-zip names tables)

      own : ◌≡◌ {A = Name × ℕ} (d, e) (get_or names k d, get_or tables k e)
      own = is ∙ get_or-take n (zip names tables) k (d, e) (omega (arith, fewer)) ∙ get_or-zip names tables k (d, e) ln lt

  pub lines_put : {a b : List ℕ} {at r : ℕ} (k n : ℕ) → k ≡ min n (length names)
      → Put a b at r (fences_text (fences_of k names tables)) → Put a b at r (fences_text (fences_of n names tables))
  lines_put k n is p = put_is (ap fences_text (by (dec_le (length names) k))) p
    where
      by : Dec (length names ≤ k) → fences_of k names tables ≡ fences_of n names tables
      by (yes l) =
          let e : k + (n - k) ≡ n = omega arith in
          sym (fences_cap k (n - k) names tables l) ∙ ap (λ (i : ℕ). fences_of i names tables) e
      by (no g) = ap (λ (i : ℕ). fences_of i names tables) (omega arith)
