-- What stands where in a stream, once more is put behind it or a part of it is taken. Assumes nothing.
use Prim.Native.Nat.{ℕ, zero, suc, ◌+◌, ◌≤◌, ◌<◌, max}
use mathlib.Core.Path.{◌≡◌, refl, sym, ap, ◌∙◌}
use mathlib.Core.List.{List, [], ◌∷◌, ◌++◌, append-nil}
use native.Mathlib.Omega.{arith}
use lib.ListN.{length, get_or, take, length-append, get_or-append}
use lib.Seq.{get_or-append_seam, take-nil}
use Rattle.tables.specs.declared.table.Row.{Row}
use Rattle.tables.specs.declared.table.Column.{Column}
use Rattle.tables.specs.Table.{cell}
use Rattle.tables.proofs.Laws.{cell_below}
use Rattle.operations.specs.declared.Kind.{Kind}
use Rattle.operations.specs.declared.Operation.{Operation}
use Rattle.rule.specs.Stream.{Stream, access, fence, accesses, count, kind_at, fences, before, after, through}
use Rattle.rule.specs.Pairs.{Model, fence_table, highest}

-- accesses

pub accesses-append : (s x : Stream) → accesses (s ++ x) ≡ accesses s ++ accesses x
accesses-append [] x = refl
accesses-append (Operation.Access k ∷ s) x = ap (λ (l : List Kind). k ∷ l) (accesses-append s x)
accesses-append (Operation.Fence n ∷ s) x = accesses-append s x

pub count-append : (s x : Stream) → count (s ++ x) ≡ count s + count x
count-append s x = ap length (accesses-append s x) ∙ length-append (accesses s) (accesses x)

-- two streams of the same accesses stay so when both get an access, or one of them a fence
pub same_access : (input output : Stream) (k : Kind) → accesses output ≡ accesses input → accesses (output ++ access k) ≡ accesses (input ++ access k)
same_access input output k same =
    accesses-append output (access k) ∙ ap (λ (l : List Kind). l ++ (k ∷ [])) same ∙ sym (accesses-append input (access k))

pub same_fence : (input output : Stream) (g : ℕ) → accesses output ≡ accesses input → accesses (output ++ fence g) ≡ accesses input
same_fence input output g same = accesses-append output (fence g) ∙ append-nil (accesses output) ∙ same

pub count_fence : (s : Stream) (n : ℕ) → count (s ++ fence n) ≡ count s
count_fence s n = omega (arith, count-append s (fence n))

pub count_access : (s : Stream) (k : Kind) → count (s ++ access k) ≡ suc (count s)
count_access s k = omega (arith, count-append s (access k))

pub kind_append : (s x : Stream) (i : ℕ) → i < count s → kind_at (s ++ x) i ≡ kind_at s i
kind_append s x i l =
    ap (λ (ks : List Kind). get_or ks i Kind.Ld) (accesses-append s x) ∙ get_or-append (accesses s) (accesses x) Kind.Ld i l

pub kind_next : (s : Stream) (k : Kind) (x : Stream) → kind_at (s ++ Operation.Access k ∷ x) (count s) ≡ k
kind_next s k x =
    ap (λ (ks : List Kind). get_or ks (count s) Kind.Ld) (accesses-append s (Operation.Access k ∷ x))
    ∙ get_or-append_seam (accesses s) k (accesses x) Kind.Ld

-- after

pub after-append : (i : ℕ) (s x : Stream) → i < count s → after i (s ++ x) ≡ after i s ++ x
after-append i [] x l = absurd (omega arith)
after-append i (Operation.Fence n ∷ s) x l = after-append i s x l
after-append zero (Operation.Access k ∷ s) x l = refl
after-append (suc i) (Operation.Access k ∷ s) x l = after-append i s x (omega arith)

pub after_next : (s : Stream) (k : Kind) (x : Stream) → after (count s) (s ++ Operation.Access k ∷ x) ≡ x
after_next [] k x = refl
after_next (Operation.Fence n ∷ s) k x = after_next s k x
after_next (Operation.Access j ∷ s) k x = after_next s k x

-- before

pub before-append : (j : ℕ) (s x : Stream) → j < count s → before j (s ++ x) ≡ before j s
before-append j [] x l = absurd (omega arith)
before-append j (Operation.Fence n ∷ s) x l = ap (λ (t : Stream). Operation.Fence n ∷ t) (before-append j s x l)
before-append zero (Operation.Access k ∷ s) x l = refl
before-append (suc j) (Operation.Access k ∷ s) x l = ap (λ (t : Stream). Operation.Access k ∷ t) (before-append j s x (omega arith))

pub before_next : (s : Stream) (k : Kind) (x : Stream) → before (count s) (s ++ Operation.Access k ∷ x) ≡ s
before_next [] k x = refl
before_next (Operation.Fence n ∷ s) k x = ap (λ (t : Stream). Operation.Fence n ∷ t) (before_next s k x)
before_next (Operation.Access j ∷ s) k x = ap (λ (t : Stream). Operation.Access j ∷ t) (before_next s k x)

pub before_before : (i j : ℕ) (s : Stream) → i ≤ j → before i (before j s) ≡ before i s
before_before i j [] l = refl
before_before i j (Operation.Fence n ∷ s) l = ap (λ (t : Stream). Operation.Fence n ∷ t) (before_before i j s l)
before_before zero zero (Operation.Access k ∷ s) l = refl
before_before zero (suc j) (Operation.Access k ∷ s) l = refl
before_before (suc i) zero (Operation.Access k ∷ s) l = absurd (omega arith)
before_before (suc i) (suc j) (Operation.Access k ∷ s) l = ap (λ (t : Stream). Operation.Access k ∷ t) (before_before i j s (omega arith))

pub accesses_before : (j : ℕ) (s : Stream) → accesses (before j s) ≡ take j (accesses s)
accesses_before j [] = sym (take-nil j)
accesses_before j (Operation.Fence n ∷ s) = accesses_before j s
accesses_before zero (Operation.Access k ∷ s) = refl
accesses_before (suc j) (Operation.Access k ∷ s) = ap (λ (l : List Kind). k ∷ l) (accesses_before j s)

-- through

pub through-append : (j : ℕ) (s x : Stream) → j ≤ count s → through j (s ++ x) ≡ through j s
through-append zero s x l = refl
through-append (suc j) [] x l = absurd (omega arith)
through-append (suc j) (Operation.Fence n ∷ s) x l = ap (λ (t : Stream). Operation.Fence n ∷ t) (through-append (suc j) s x l)
through-append (suc j) (Operation.Access k ∷ s) x l = ap (λ (t : Stream). Operation.Access k ∷ t) (through-append j s x (omega arith))

pub through_next : (s : Stream) (k : Kind) → through (suc (count s)) (s ++ access k) ≡ s ++ access k
through_next [] k = refl
through_next (Operation.Fence n ∷ s) k = ap (λ (t : Stream). Operation.Fence n ∷ t) (through_next s k)
through_next (Operation.Access j ∷ s) k = ap (λ (t : Stream). Operation.Access j ∷ t) (through_next s k)

-- fences

pub fences-append : (s x : Stream) → fences (s ++ x) ≡ fences s + fences x
fences-append [] x = omega arith
fences-append (Operation.Access k ∷ s) x = fences-append s x
fences-append (Operation.Fence n ∷ s) x = omega (arith, fences-append s x)

-- the fences before an access and those after it are all there are
pub fences_split : (i : ℕ) (s : Stream) → fences (before i s) + fences (after i s) ≡ fences s
fences_split i [] = refl
fences_split i (Operation.Fence n ∷ s) = omega (arith, fences_split i s)
fences_split zero (Operation.Access k ∷ s) = omega arith
fences_split (suc i) (Operation.Access k ∷ s) = fences_split i s

pub fences_before : (i j : ℕ) (s : Stream) → i ≤ j → fences (before i s) ≤ fences (before j s)
fences_before i j s l =
    omega (arith, fences_split i (before j s), ap fences (before_before i j s l))

-- strengths

module _ (m : Model) (r : Row) (c : Column) where
  pub highest_access : (s : Stream) (k : Kind) → highest m r c (s ++ access k) ≡ highest m r c s
  highest_access [] k = refl
  highest_access (Operation.Access j ∷ s) k = highest_access s k
  highest_access (Operation.Fence n ∷ s) k = ap (max (cell (fence_table m n) r c)) (highest_access s k)

  pub highest_fence : (s : Stream) (g : ℕ) → highest m r c (s ++ fence g) ≡ max (highest m r c s) (cell (fence_table m g) r c)
  highest_fence [] g = omega arith
  highest_fence (Operation.Access j ∷ s) g = highest_fence s g
  highest_fence (Operation.Fence n ∷ s) g = omega (arith, highest_fence s g)

  pub highest_below_lem : (s : Stream) → highest m r c s < 4
  highest_below_lem [] = cell_below m.ppo r c
  highest_below_lem (Operation.Access j ∷ s) = highest_below_lem s
  highest_below_lem (Operation.Fence n ∷ s) = omega (arith, highest_below_lem s, cell_below (fence_table m n) r c)

  pub default_offered : (s : Stream) → cell m.ppo r c ≤ highest m r c s
  default_offered [] = omega arith
  default_offered (Operation.Access j ∷ s) = default_offered s
  default_offered (Operation.Fence n ∷ s) = omega (arith, default_offered s)

  -- where more than the default is offered, a fence stands in the stretch
  pub fence_stands : (s : Stream) → cell m.ppo r c < highest m r c s → 0 < fences s
  fence_stands [] l = absurd (omega arith)
  fence_stands (Operation.Access j ∷ s) l = fence_stands s l
  fence_stands (Operation.Fence n ∷ s) l = omega arith
