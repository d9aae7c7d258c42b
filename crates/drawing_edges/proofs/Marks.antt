-- A mark is one byte, and tells its fence: a byte names at most one, and what it names is written by it. Assumes nothing.
use Rattle.std.proofs.Common.{Option, Some, None}
use Prim.Native.Nat.{ℕ, zero, suc, ◌+◌, ◌≤◌, ◌<◌, zero-le}
use mathlib.Core.Path.{◌≡◌, refl, sym, ap, ◌∙◌}
use mathlib.Core.Logic.{◌⊎◌, inl, inr}
use mathlib.Core.List.{List, [], ◌∷◌, ◌++◌, append-nil}
use native.Mathlib.Omega.{arith}
use native.Mathlib.Nat.{add-zero}
use borrow.Author.Tests.{ne_eqb}
use lib.ListN.{length, take, drop, get_or, length-drop}
use lib.Seq.{drop-cons, get_or-drop, length-take-le}
use Rattle.operations.specs.declared.Kind.{Kind}
use Rattle.operations.specs.declared.Operation.{Operation}
use Rattle.operations.specs.Operation.{byte_is, fence_byte}
use Rattle.operations.specs.Alphabet.{fence_mark}
use Rattle.operations.proofs.Bytes.{fence_read, written_read}
use Rattle.texts.specs.Language.{Begins, Longest, Any, Some as SomeText, Unique}
use Rattle.texts.specs.Telling.{took, stopped, Finds, finds, departs}
use Rattle.drawing_edges.specs.Edges.{fence_in, fence_named, MarkPart}

none_some : {n : ℕ} → ◌≡◌ {A = Option ℕ} None (Some n) → ⊥
none_some e = cc

some_same : {m n : ℕ} → ◌≡◌ {A = Option ℕ} (Some m) (Some n) → m ≡ n
some_same e = cc

-- the fences that have a mark here
Markable : ℕ → ℕ → Type 0
Markable marks fence = (fence < marks) ⊎ (fence ≡ 255)

low_mark : (f : ℕ) → f < 16 → fence_mark f ≡ fence_byte f
low_mark f l = simp (ne_eqb f 254 (omega arith), ne_eqb f 255 (omega arith))

number_of_mark : (f : ℕ) → f < 16 → fence_named (fence_mark f) ≡ Some f
unfolding fence_named
number_of_mark f l = ap (λ (b : ℕ). fence_in (byte_is b)) (low_mark f l) ∙ ap fence_in (fence_read f l)

mark_of_number : (b n : ℕ) → fence_named b ≡ Some n → n < 16 → fence_mark n ≡ b
unfolding fence_named
mark_of_number b n e l = by (byte_is b) refl e
  where
    by : (x : Option Operation) → byte_is b ≡ x → fence_in x ≡ Some n → fence_mark n ≡ b
    by (Some (Operation.Fence m)) is e =
        let same : m ≡ n = cc in
        low_mark n l ∙ ap fence_byte (sym same) ∙ written_read b (Operation.Fence m) is
    by (Some (Operation.Access k)) is e = absurd (none_some e)
    by None is e = absurd (none_some e)

-- what a byte was read as names the fence
module _ (b : ℕ) {x : Option Operation} (is : x ≡ byte_is b) where
  pub named_fence : {op : Operation} {n : ℕ} → x ≡ Some op → op ≡ Operation.Fence n → Some n ≡ fence_named b
  unfolding fence_named
  named_fence e f = sym (ap (λ (o : Operation). fence_in (Some o)) f) ∙ ap fence_in (sym e ∙ is)

  pub named_access : {op : Operation} {k : Kind} → x ≡ Some op → op ≡ Operation.Access k → None ≡ fence_named b
  unfolding fence_named
  named_access e f = sym (ap (λ (o : Operation). fence_in (Some o)) f) ∙ ap fence_in (sym e ∙ is)

  pub named_nothing : x ≡ None → None ≡ fence_named b
  unfolding fence_named
  named_nothing e = ap fence_in (sym e ∙ is)

-- a dash names no fence
dash_no_fence : fence_named 45 ≡ None
unfolding fence_named byte_is
dash_no_fence = refl

no_dash : (f : ℕ) → f < 16 → fence_mark f ≡ 45 → ⊥
no_dash f l e = none_some (sym dash_no_fence ∙ ap fence_named (sym e) ∙ number_of_mark f l)

same_mark : {marks : ℕ} (f g : ℕ) → marks ≤ 16 → Markable marks f → Markable marks g → fence_mark f ≡ fence_mark g → f ≡ g
unfolding Markable
same_mark f g few (inl l) (inl m) e =
    some_same (sym (number_of_mark f (omega arith)) ∙ ap fence_named e ∙ number_of_mark g (omega arith))
same_mark f g few (inl l) (inr is) e = absurd (no_dash f (omega arith) (e ∙ ap fence_mark is))
same_mark f g few (inr is) (inl m) e = absurd (no_dash g (omega arith) (sym e ∙ ap fence_mark is))
same_mark f g few (inr is) (inr also) e = is ∙ sym also

pub mark_small : {marks f : ℕ} {x : List ℕ} → marks ≤ 16 → MarkPart marks f x → f ≤ 255
mark_small few (inl l, e) = omega arith
mark_small few (inr i, e) = omega arith

pub unique_mark : (marks : ℕ) → marks ≤ 16 → Unique (MarkPart marks)
unfolding Markable
unique_mark marks few s m n a b lm ln (va, ea) (vb, eb) =
    let em : m ≡ 1 = sym (length-take-le m s lm) ∙ ap length ea in
    let en : n ≡ 1 = sym (length-take-le n s ln) ∙ ap length eb in
    let same : m ≡ n = em ∙ sym en in
    let marks-same : fence_mark a ≡ fence_mark b = ap (λ (x : List ℕ). get_or x 0 0) (sym ea ∙ ap (λ (i : ℕ). take i s) same ∙ eb) in
    (same, same_mark a b few va vb marks-same)

pub some_mark : (marks : ℕ) → SomeText (Any (MarkPart marks))
some_mark marks = (45 ∷ [], (255, (inr refl, refl)))

-- what begins a text of one byte has that byte in front
first_is : (s rest : List ℕ) (j b : ℕ) → 1 ≤ j → j ≤ length s → take j s ++ rest ≡ b ∷ [] → get_or s 0 0 ≡ b
first_is [] rest j b h l e = absurd (omega arith)
first_is (x ∷ s) rest zero b h l e = absurd (omega arith)
first_is (x ∷ s) rest (suc j) b h l e = ap (λ (y : List ℕ). get_or y 0 0) e

module _ {marks : ℕ} {t : List ℕ} {at : ℕ} where
  here : at < length t → (f : ℕ) → Markable marks f → fence_mark f ≡ get_or t at 0 → Finds (MarkPart marks) t at (took (at + 1) f)
  unfolding Markable
  here l f v e =
      let one : take 1 (drop at t) ≡ fence_mark f ∷ [] = ap (take 1) (drop-cons t at 0 l) ∙ ap (λ (b : ℕ). b ∷ []) (sym e) in
      finds {n = 1} refl (omega (arith, length-drop at t)) (v, one)

  nowhere : ((f : ℕ) → Markable marks f → at < length t → get_or t at 0 ≡ fence_mark f → ⊥) → Finds (MarkPart marks) t at (stopped at)
  unfolding Markable
  nowhere none = departs {k = 0} (sym (add-zero at)) longest (λ n f ln (v, e). no_part n f v ln e)
    where
      s : List ℕ
      s = drop at t

      not_first : (f : ℕ) → Markable marks f → 1 ≤ length s → get_or s 0 0 ≡ fence_mark f → ⊥
      not_first f v l e = none f v (omega (arith, length-drop at t)) (ap (λ (i : ℕ). get_or t i 0) (sym (add-zero at)) ∙ sym (get_or-drop at t 0 0) ∙ e)

      no_part : (n f : ℕ) → Markable marks f → n ≤ length s → take n s ≡ fence_mark f ∷ [] → ⊥
      no_part n f v ln e =
          let one : n ≡ 1 = sym (length-take-le n s ln) ∙ ap length e in
          not_first f v (omega arith) (first_is s [] n (fence_mark f) (omega arith) ln (append-nil (take n s) ∙ e))

      longest : Longest (Any (MarkPart marks)) s 0
      longest = record { within = zero-le; begins = some_mark marks; longest = most }
        where
          most : (j : ℕ) → j ≤ length s → Begins (Any (MarkPart marks)) (take j s) → j ≤ 0
          most zero lj b = omega arith
          most (suc j) lj (rest, (f, (v, e))) = absurd (not_first f v (omega arith) (first_is s rest (suc j) (fence_mark f) (omega arith) lj e))

  pub mark_over : length t ≤ at → Finds (MarkPart marks) t at (stopped at)
  mark_over l = nowhere (λ f v h e. omega arith)

  pub mark_dash : at < length t → get_or t at 0 ≡ 45 → Finds (MarkPart marks) t at (took (at + 1) 255)
  unfolding Markable
  mark_dash l e = here l 255 (inr refl) (sym e)

  module _ (few : marks ≤ 16) (l : at < length t) where
    pub mark_fence : {n : ℕ} → fence_named (get_or t at 0) ≡ Some n → n < marks → Finds (MarkPart marks) t at (took (at + 1) n)
    unfolding Markable
    mark_fence {n} is low = here l n (inl low) (mark_of_number (get_or t at 0) n is (omega arith))

    module _ (other : get_or t at 0 ≡ 45 → ⊥) where
      -- the byte would name each fence that could be told here
      told_none : ((f : ℕ) → f < marks → fence_named (get_or t at 0) ≡ Some f → ⊥) → Finds (MarkPart marks) t at (stopped at)
      unfolding Markable
      told_none free = nowhere none
        where
          none : (f : ℕ) → Markable marks f → at < length t → get_or t at 0 ≡ fence_mark f → ⊥
          none f (inl low) h e = free f low (ap fence_named e ∙ number_of_mark f (omega arith))
          none f (inr i) h e = other (e ∙ ap fence_mark i)

      pub mark_nothing : fence_named (get_or t at 0) ≡ None → Finds (MarkPart marks) t at (stopped at)
      mark_nothing is = told_none (λ f low e. none_some (sym is ∙ e))

      pub mark_other : {n : ℕ} → fence_named (get_or t at 0) ≡ Some n → marks ≤ n → Finds (MarkPart marks) t at (stopped at)
      mark_other {n} is high = told_none above
        where
          above : (f : ℕ) → f < marks → fence_named (get_or t at 0) ≡ Some f → ⊥
          above f low e = let same : n ≡ f = some_same (sym is ∙ e) in omega arith
