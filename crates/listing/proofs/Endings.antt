-- What stands after the two texts: its first line is the way's, and the run's line is all that is left. Assumes nothing.
use Rattle.std.proofs.Common.{Option, Some, None}
use Prim.Native.Nat.{ℕ, ◌+◌, ◌-◌, ◌<◌}
use mathlib.Core.Path.{◌≡◌, refl, sym, ap, ap₂, subst, ◌∙◌}
use mathlib.Core.Bool.{Bool, true, false, ◌&&◌, cond}
use mathlib.Core.List.{List, [], ◌∷◌}
use native.Mathlib.Omega.{arith}
use borrow.Author.Tests.{leb-true}
use lib.Dec.{eqb, leb}
use lib.ListN.{length, get_or, take, drop, length-drop, drop_of_length-le}
use lib.Seq.{take_all, drop-drop}
use Rattle.ground.proofs.Truths.{differ}
use Rattle.ground.specs.Bytes.{bytes, same_bytes}
use Rattle.rule.specs.declared.way.Way.{Way}
use Rattle.listing.specs.Shape.{prefixed, lines, way_in, is_run, stream_of, ending_from, ending_of}
use Rattle.listing.specs.inner.Finding.{LineOf, RunOf, OnlyRun, EndingOf}
use Rattle.listing.proofs.Lines.{never_ending, part_rest}

-- one line is all
only_one : {t : List ℕ} {n : ℕ} → LineOf t n → n ≡ length t → lines t ≡ t ∷ []
unfolding lines
only_one {t} {n} line e =
    line.first ∙ ap₂ (λ (x y : List ℕ). x ∷ lines y) (take_all n t (omega arith)) (drop_of_length-le t {i = n} (omega arith))

by_run : (t : List ℕ) (q : Bool) → is_run t ≡ q → lines t ≡ t ∷ [] → OnlyRun t q
by_run t true e is = record { only = is; run = e }
by_run t false e is = λ w. ap (λ (x : List (List ℕ)). ending_of (w ∷ x)) is ∙ never_ending (way_in w) t e

pub run_alone : {t : List ℕ} {n : ℕ} {q : Bool} → LineOf t n → n ≡ length t → q ≡ is_run t → OnlyRun t q
run_alone {t} {n} {q} line e r = by_run t q (sym r) (only_one line e)

-- more lines follow
prefixed_some : (b : ℕ) (xs : List (List ℕ)) → (x : List ℕ) × (ys : List (List ℕ)) × (prefixed b xs ≡ x ∷ ys)
prefixed_some b [] = (b ∷ [], [], refl)
prefixed_some b (x ∷ xs) = (b ∷ x, xs, refl)

some_line : (t : List ℕ) → 0 < length t → (x : List ℕ) × (xs : List (List ℕ)) × (lines t ≡ x ∷ xs)
unfolding lines
some_line [] l = absurd (omega arith)
some_line (b ∷ t) l = by (eqb b 10)
  where
    by : (q : Bool) → (x : List ℕ) × (xs : List (List ℕ)) × (cond q ((b ∷ []) ∷ lines t) (prefixed b (lines t)) ≡ x ∷ xs)
    by true = (b ∷ [], lines t, refl)
    by false = prefixed_some b (lines t)

pub run_and_more : {t : List ℕ} {n : ℕ} → LineOf t n → (n ≡ length t → ⊥) → OnlyRun t false
run_and_more {t} {n} line e =
    let more = some_line (drop n t) (omega (arith, line.inside, length-drop n t)) in
    λ w. ap (λ (x : List (List ℕ)). ending_of (w ∷ x)) (line.first ∙ ap (λ (x : List (List ℕ)). take n t ∷ x) more.2)

-- a run has five bytes at least
run_long : (t : List ℕ) → is_run t ≡ true → 4 < length t
run_long t e = by (leb 5 (length t)) refl e
  where
    by : (q : Bool) → leb 5 (length t) ≡ q → q && (same_bytes (take 4 t) (bytes "run ") && eqb (get_or t (length t - 1) 0) 10) ≡ true → 4 < length t
    by true h e = leb-true 5 (length t) h
    by false h e = differ (cc)

-- the way's line and the rest
module _ {t : List ℕ} {n : ℕ} (line : LineOf t n) where
  pub way_not : way_in (take n t) ≡ None → ending_of (lines t) ≡ None
  way_not e = ap ending_of line.first ∙ by (lines (drop n t))
    where
      by : (xs : List (List ℕ)) → ending_of (take n t ∷ xs) ≡ None
      by [] = refl
      by (r ∷ []) = ap (λ (w : Option Way). ending_from w r) e
      by (r ∷ x ∷ xs) = refl

  rest_long : RunOf (take (length t - n) (drop n t)) → 4 < length (drop n t)
  rest_long r = run_long (drop n t) (subst (λ (x : List ℕ). RunOf x) (part_rest t n) r).run

  pub room : RunOf (take (length t - n) (drop n t)) → n + 4 < length t
  room r = omega (arith, rest_long r, length-drop n t)

  pub ending_is : {way : Way} → Some way ≡ way_in (take n t) → RunOf (take (length t - n) (drop n t)) → EndingOf t way (n + 4)
  ending_is {way} e part =
      let r : RunOf (drop n t) = subst (λ (x : List ℕ). RunOf x) (part_rest t n) part in
      let k : length (drop n t) - 5 ≡ length t - 1 - (n + 4) = omega (arith, length-drop n t) in
      record {
        inside = room part;
        whole =
            ap ending_of (line.first ∙ ap (λ (x : List (List ℕ)). take n t ∷ x) r.only)
            ∙ ap (λ (w : Option Way). ending_from w (drop n t)) (sym e)
            ∙ ap (λ (q : Bool). cond q (Some (record { way = way; stream = stream_of (drop n t) })) None) r.run
            ∙ ap₂ (λ (m : ℕ) (s : List ℕ). Some (record { way = way; stream = take m s })) k (drop-drop 4 n t);
      }

  pub ending_not : OnlyRun (take (length t - n) (drop n t)) false → ending_of (lines t) ≡ None
  ending_not h = ap ending_of line.first ∙ subst (λ (x : List ℕ). OnlyRun x false) (part_rest t n) h (take n t)
