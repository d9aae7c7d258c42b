-- One byte more of a pattern or of a name's field, at a place of the whole text: what loops go by, and where a name ends.
-- Assumes nothing.
use Rattle.std.proofs.Common.{Ok, Err}
use Prim.Native.Nat.{ℕ, suc, ◌+◌, ◌-◌, ◌≤◌, ◌<◌}
use mathlib.Core.Path.{◌≡◌, refl, sym, ap, ap₂, ◌∙◌}
use mathlib.Core.Bool.{Bool, true, false, cond}
use mathlib.Core.List.{List, ◌++◌}
use native.Mathlib.Omega.{arith}
use native.Mathlib.Nat.{add-zero}
use native.Mathlib.Numerals.{add-one}
use native.Mathlib.Decide.{dec_lt, ℕ_discrete}
use borrow.Author.Tests.{eq-eqb, ne_eqb, lt-ltb, le-ltb}
use lib.ListN.{length, take, drop, get_or, set, replicate, drop_of_length-le, length-drop}
use lib.Seq.{length-take-le, take-suc, drop-cons, get_or-drop, set_at, append_snoc}
use Rattle.ground.proofs.Truths.{differ}
use Rattle.texts.specs.Step.{Step}
use Rattle.texts.specs.Language.{shift}
use Rattle.texts.specs.Pattern.{fits, further, follow, follow_at}
use Rattle.texts.specs.NamePart.{name_run, end_name, name_step, name_at}
use Rattle.texts.proofs.NamePart.{run_within}

shift_further : (here : ℕ) (r : Step) → shift here (further r) ≡ shift (here + 1) r
shift_further here (Ok k) = ap Ok (omega arith)
shift_further here (Err k) = ap Err (omega arith)

module _ (ps t : List ℕ) (i here : ℕ) (li : i < length ps) where
  pub follow_over : length t ≤ here → follow_at (drop i ps) t here ≡ Err here
  unfolding follow
  follow_over l = rw (drop-cons ps i 0 li, drop_of_length-le t l) (ap Err (add-zero here))

  pub follow_not : here < length t → fits (get_or ps i 0) (get_or t here 0) ≡ false → follow_at (drop i ps) t here ≡ Err here
  unfolding follow
  follow_not l f = rw (drop-cons ps i 0 li, drop-cons t here 0 l) (rw f (ap Err (add-zero here)))

  pub follow_more : here < length t → fits (get_or ps i 0) (get_or t here 0) ≡ true
      → follow_at (drop i ps) t here ≡ follow_at (drop (i + 1) ps) t (here + 1)
  unfolding follow
  follow_more l f =
      let D : List ℕ = drop (suc i) ps in
      let E : List ℕ = drop (suc here) t in
      ap₂ (λ (a b : List ℕ). shift here (follow a b)) (drop-cons ps i 0 li) (drop-cons t here 0 l)
      ∙ ap (λ (q : Bool). shift here (cond q (further (follow D E)) (Err 0))) f
      ∙ shift_further here (follow D E)
      ∙ ap₂ (λ (m n : ℕ). shift (here + 1) (follow (drop m ps) (drop n t))) (sym (add-one i)) (sym (add-one here))

pub follow_done : (ps t : List ℕ) (i here : ℕ) → length ps ≤ i → follow_at (drop i ps) t here ≡ Ok here
unfolding follow
follow_done ps t i here l = rw (drop_of_length-le ps l) (ap Ok (add-zero here))

-- in a field of 16 bytes that zeros fill up, the next byte goes in place of a zero
pub filled_more : (s : List ℕ) (i : ℕ) → i < length s → i < 16
    → set (take i s ++ replicate (16 - i) 0) i (get_or s i 0) ≡ take (i + 1) s ++ replicate (16 - (i + 1)) 0
filled_more s i ls li =
    let k : ℕ = 16 - (i + 1) in
    let e : 16 - i ≡ suc k = omega arith in
    ap (λ (n : ℕ). set (take i s ++ replicate n 0) i (get_or s i 0)) e
    ∙ set_at (take i s) 0 (replicate k 0) (get_or s i 0) i (length-take-le i s (omega arith))
    ∙ sym (append_snoc (take i s) (get_or s i 0) (replicate k 0))
    ∙ ap (λ (l : List ℕ). l ++ replicate k 0) (sym (take-suc s i 0 ls) ∙ ap (λ (n : ℕ). take n s) (sym (add-one i)))

-- a name of n bytes has been counted
module _ (e : ℕ) (t : List ℕ) (at n : ℕ) (h : n ≡ name_run 16 (drop at t)) where
  pub name_fits : 1 ≤ n → at + n ≤ length t
  name_fits some = omega (arith, run_within (drop at t), length-drop at t)

  counted : name_at e t at ≡ shift at (end_name e (drop at t) n)
  unfolding name_step
  counted = ap (λ (k : ℕ). shift at (end_name e (drop at t) k)) (sym h)

  pub name_none : n ≡ 0 → name_at e t at ≡ Err at
  name_none z = counted ∙ rw (eq-eqb n 0 z) (ap Err (add-zero at))

  module _ (some : n ≡ 0 → ⊥) where
    pub name_over : length t ≤ at + n → name_at e t at ≡ Err (at + n)
    name_over l = counted ∙ rw (ne_eqb n 0 some, le-ltb n (length (drop at t)) (omega (arith, length-drop at t)))

    module _ (l : at + n < length t) where
      pub name_other : (get_or t (at + n) 0 ≡ e → ⊥) → name_at e t at ≡ Err (at + n)
      name_other q =
          counted
          ∙ rw (ne_eqb n 0 some, lt-ltb n (length (drop at t)) (omega (arith, length-drop at t)), get_or-drop at t n 0, ne_eqb (get_or t (at + n) 0) e q)

      pub name_ends : get_or t (at + n) 0 ≡ e → name_at e t at ≡ Ok (at + n + 1)
      name_ends q =
          counted
          ∙ rw (ne_eqb n 0 some, lt-ltb n (length (drop at t)) (omega (arith, length-drop at t)), get_or-drop at t n 0, eq-eqb (get_or t (at + n) 0) e q)
          (ap Ok (omega arith))

-- where a name has ended that was found
pub name_past : (e : ℕ) (t : List ℕ) (at p : ℕ) → name_at e t at ≡ Ok p → (at + name_run 16 (drop at t) + 1 ≡ p) × (p ≤ length t)
name_past e t at p is = by (ℕ_discrete n 0) (dec_lt (at + n) (length t)) (ℕ_discrete (get_or t (at + n) 0) e)
  where
    n : ℕ
    n = name_run 16 (drop at t)

    not_stuck : {k : ℕ} → name_at e t at ≡ Err k → ⊥
    not_stuck h = differ (cc)

    by : Dec (n ≡ 0) → Dec (at + n < length t) → Dec (get_or t (at + n) 0 ≡ e) → (at + n + 1 ≡ p) × (p ≤ length t)
    by (yes z) l q = absurd (not_stuck (name_none e t at n refl z))
    by (no some) (no l) q = absurd (not_stuck (name_over e t at n refl some (omega arith)))
    by (no some) (yes l) (no q) = absurd (not_stuck (name_other e t at n refl some l q))
    by (no some) (yes l) (yes q) =
        let ends : name_at e t at ≡ Ok (at + n + 1) = name_ends e t at n refl some l q in
        let same : at + n + 1 ≡ p = cc in
        (same, omega arith)
