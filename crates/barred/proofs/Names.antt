-- Where a name has ended. Assumes nothing.
use Prim.Native.Nat.{ℕ, zero, suc, ◌+◌}
use mathlib.Core.Path.{◌≡◌, refl, sym, ap, ◌∙◌}
use mathlib.Core.Bool.{Bool, true, false, cond, ◌||◌}
use mathlib.Core.List.{List, [], ◌∷◌, ◌++◌, map-id}
use native.Mathlib.Omega.{arith}
use native.Mathlib.Numerals.{add-one}
use lib.Dec.{eqb}
use Rattle.std.specs.List.{list_any, range_with_len}
use Rattle.std.proofs.lemmas.List.FromFn.{map-range_with_len_more}
use Rattle.std.proofs.lemmas.List.Folds.{list_any-append}
use Rattle.ground.specs.Bytes.{at}
use Rattle.barred.specs.Barred.{ended}

-- whether a zero stands among the first k bytes of a name is whether any of them is one
or_back : (x y : Bool) → (x || (y || false)) ≡ cond y true x
or_back true true = refl
or_back true false = refl
or_back false true = refl
or_back false false = refl

pub ended_any : (image : List ℕ) (from k : ℕ) → list_any (λ (j : ℕ). eqb (at image (from + j)) 0) (range_with_len 0 k) ≡ ended image from k
unfolding ended
ended_any image from zero = refl
ended_any image from (suc k) =
    let zero_at : ℕ → Bool = λ j. eqb (at image (from + j)) 0 in
    let more : range_with_len 0 (suc k) ≡ range_with_len 0 k ++ k ∷ [] =
    ap (range_with_len 0) (sym (add-one k)) ∙ sym (map-id _) ∙ map-range_with_len_more (λ j. j) 0 k k (omega arith) ∙ ap (λ l. l ++ k ∷ []) (map-id _) in
    ap (list_any zero_at) more ∙ list_any-append zero_at (range_with_len 0 k) (k ∷ []) ∙ or_back (list_any zero_at (range_with_len 0 k)) (zero_at k)
    ∙ ap (cond (zero_at k) true) (ended_any image from k)
