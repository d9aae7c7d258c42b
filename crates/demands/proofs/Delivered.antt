-- What an answer and a buffer tell of what was to be given: a call is done exactly where there are bytes and they fit. Assumes nothing.
use Rattle.std.proofs.Common.{Ok, Err}
use Prim.Native.Nat.{ℕ, ◌<◌, ◌≤◌}
use mathlib.Core.Path.{◌≡◌, refl, sym, ap, subst, ◌∙◌}
use mathlib.Core.List.{List, ◌++◌}
use native.Mathlib.Decide.{dec_le}
use native.Mathlib.Omega.{arith}
use lib.ListN.{length, take, drop}
use lib.Seq.{take-append_seam, drop-append_seam}
use Rattle.ground.proofs.Truths.{differ}
use Rattle.answers.specs.declared.Refusal.{Refusal}
use Rattle.answers.specs.declared.Done.{Done}
use Rattle.answers.specs.Answer.{Answer, wrote}
use Rattle.answers.specs.Given.{Given, gives, refuses, answer_of, buffer_of, Delivers}
use Rattle.answers.proofs.Laws.{buffer_fits, buffer_not, answer_fits, answer_not}

-- a call that was done gave the bytes that stand at the front of the buffer, and the rest is as it was
pub record Gave (given : Given) (out : List ℕ) (written fences state : ℕ) (after : List ℕ) : Type 0 where
  pub is : given ≡ gives (take written after) fences state
  pub size : length (take written after) ≡ written
  pub fits : written ≤ length out
  pub rest : drop written after ≡ drop written out

pub done_gave : {g : Given} {out after : List ℕ} {w f s : ℕ} → Delivers g out (Ok (wrote w f s)) after → Gave g out w f s after
done_gave {g} {out} {after} {w} {f} {s} d = by g refl d.answer d.buffer
  where
    by : (x : Given) → g ≡ x → Ok (wrote w f s) ≡ answer_of x (length out) → after ≡ buffer_of x out → Gave g out w f s after
    by (refuses why) e a b = differ (cc)
    by (gives bytes n t) e a b = fit (dec_le (length bytes) (length out))
      where
        fit : Dec (length bytes ≤ length out) → Gave g out w f s after
        fit (no l) =
            let z : Ok (wrote w f s) ≡ Err Refusal.BufferTooSmall = a ∙ answer_not bytes n t (length out) (omega arith) in
            differ (cc)
        fit (yes l) =
            let z : Path Answer (Ok (wrote w f s)) (Ok (wrote (length bytes) n t)) = a ∙ answer_fits bytes n t (length out) l in
            let same : wrote w f s ≡ wrote (length bytes) n t = cc in
            let size : w ≡ length bytes = ap (λ (x : Done). x.written) same in
            let fences : n ≡ f = ap (λ (x : Done). x.fences) (sym same) in
            let state : t ≡ s = ap (λ (x : Done). x.state) (sym same) in
            let all : after ≡ bytes ++ drop (length bytes) out = b ∙ buffer_fits bytes out l in
            let front : take w after ≡ bytes =
            ap (take w) all ∙ ap (λ (k : ℕ). take k (bytes ++ drop (length bytes) out)) size ∙ take-append_seam bytes (drop (length bytes) out) in
            record {
              is = e ∙ ap (λ (k : ℕ). gives bytes k t) fences ∙ ap (λ (k : ℕ). gives bytes f k) state
                  ∙ ap (λ (l : List ℕ). gives l f s) (sym front);
              size = ap length front ∙ sym size;
              fits = omega (arith, size);
              rest = ap (drop w) all ∙ ap (λ (k : ℕ). drop k (bytes ++ drop (length bytes) out)) size
                  ∙ drop-append_seam bytes (drop (length bytes) out) ∙ ap (λ (k : ℕ). drop k out) (sym size);
            }

-- a call that was refused left the buffer alone, and had a refusal to give or more than fits
pub data Withheld (given : Given) (room : ℕ) : Refusal → Type 0 where
  refused : {why : Refusal} → given ≡ refuses why → Withheld given room why
  exceeds : {bytes : List ℕ} {f s : ℕ} → given ≡ gives bytes f s → room < length bytes → Withheld given room Refusal.BufferTooSmall

pub refused_withheld : {g : Given} {out after : List ℕ} {why : Refusal} → Delivers g out (Err why) after
    → (after ≡ out) × Withheld g (length out) why
refused_withheld {g} {out} {after} {why} d = by g refl d.answer d.buffer
  where
    by : (x : Given) → g ≡ x → Err why ≡ answer_of x (length out) → after ≡ buffer_of x out → (after ≡ out) × Withheld g (length out) why
    by (refuses is) e a b =
        let same : is ≡ why = cc in
        (b, refused (e ∙ ap refuses same))
    by (gives bytes n t) e a b = fit (dec_le (length bytes) (length out))
      where
        fit : Dec (length bytes ≤ length out) → (after ≡ out) × Withheld g (length out) why
        fit (yes l) =
            let z : Err why ≡ Ok (wrote (length bytes) n t) = a ∙ answer_fits bytes n t (length out) l in
            differ (cc)
        fit (no l) =
            let z : Err why ≡ Err Refusal.BufferTooSmall = a ∙ answer_not bytes n t (length out) (omega arith) in
            let same : Refusal.BufferTooSmall ≡ why = cc in
            (b ∙ buffer_not bytes out (omega arith), subst (Withheld g (length out)) same (exceeds e (omega arith)))

-- a call that has a refusal to give is refused with it
pub refused_as : {g : Given} {room : ℕ} {is why : Refusal} → g ≡ refuses is → Withheld g room why → is ≡ why
refused_as e (refused h) = cc
refused_as e (exceeds h l) = differ (cc)

-- and the other way round
module _ {g : Given} {out after : List ℕ} {r : Answer} (d : Delivers g out r after) where
  pub withheld_refused : {why : Refusal} → Withheld g (length out) why → r ≡ Err why
  withheld_refused (refused e) = d.answer ∙ ap (λ (x : Given). answer_of x (length out)) e
  withheld_refused (exceeds {bytes = bytes} {f = f} {s = s} e l) =
      d.answer ∙ ap (λ (x : Given). answer_of x (length out)) e ∙ answer_not bytes f s (length out) l

  pub gave_done : {bytes : List ℕ} {f s : ℕ} → g ≡ gives bytes f s → length bytes ≤ length out → r ≡ Ok (wrote (length bytes) f s)
  gave_done {bytes} {f} {s} e l = d.answer ∙ ap (λ (x : Given). answer_of x (length out)) e ∙ answer_fits bytes f s (length out) l

  pub gave_bytes : {bytes : List ℕ} {f s : ℕ} → g ≡ gives bytes f s → length bytes ≤ length out → take (length bytes) after ≡ bytes
  gave_bytes {bytes} {f} {s} e l =
      let gave = done_gave (subst (λ (x : Answer). Delivers g out x after) (gave_done e l) d) in
      let same : gives bytes f s ≡ gives (take (length bytes) after) f s = sym e ∙ gave.is in
      let front : bytes ≡ take (length bytes) after = cc in
      sym front

  -- where what is to be given is no refusal 7 and at most so long, a buffer of that size is never too small
  pub never_too_small : (size : ℕ) → (g ≡ refuses Refusal.BufferTooSmall → ⊥)
      → ((bytes : List ℕ) (f s : ℕ) → g ≡ gives bytes f s → length bytes ≤ size) → size ≤ length out → r ≡ Err Refusal.BufferTooSmall → ⊥
  never_too_small size none short l e = by (refused_withheld (subst (λ (x : Answer). Delivers g out x after) e d)).1 refl
    where
      by : {why : Refusal} → Withheld g (length out) why → why ≡ Refusal.BufferTooSmall → ⊥
      by (refused h) z = none (h ∙ ap refuses z)
      by (exceeds {bytes = bytes} {f = f} {s = s} h k) z = omega (arith, short bytes f s h)
