-- What the C host holds: a returned number, five numbers and a buffer. From them it knows the answer of the call below and so all that the demands
-- say of it: an answer is known by its numbers, since no refusal has the number 0. Assumes nothing.
use Rattle.std.proofs.Common.{Ok, Err}
use Prim.Native.Nat.{ℕ}
use mathlib.Core.Path.{◌≡◌, sym, ap, ◌∙◌}
use mathlib.Core.List.{List, [], ◌∷◌}
use Rattle.ground.proofs.Truths.{differ}
use Rattle.answers.specs.declared.Refusal.{Refusal}
use Rattle.answers.specs.Answer.{Answer, wrote, number_of, place_of, numbers_of}
use Rattle.host.specs.Border.{number_in, Tells}
use Rattle.demands.specs.Border.{TellsDone, TellsRefused}

never_0 : (why : Refusal) → 0 ≡ number_of why → ⊥
never_0 Refusal.OverLimit e = differ e
never_0 (Refusal.NotOfTheForm k) e = differ (cc)
never_0 (Refusal.FenceNameRepeats k) e = differ (cc)
never_0 (Refusal.NoOperation k) e = differ (cc)
never_0 (Refusal.NoSuchFence k) e = differ (cc)
never_0 (Refusal.NoFenceWillDo k) e = differ (cc)
never_0 Refusal.BufferTooSmall e = differ (cc)
never_0 Refusal.TooManySituations e = differ (cc)
never_0 Refusal.TooManyStates e = differ (cc)
never_0 (Refusal.BrokenBlock k) e = differ (cc)
never_0 (Refusal.BarredValue k) e = differ (cc)
never_0 Refusal.OutOfRange e = differ (cc)

module _ {Promise : Answer → List ℕ → Type 0} {number : ℕ} {numbers after : List ℕ} (call : Tells Promise number numbers after) where
  pub tells_done : number ≡ 0 → TellsDone Promise numbers after
  tells_done e = by call.what call.promised call.returned call.told
    where
      by : (r : Answer) → Promise r after → number ≡ number_in r → numbers ≡ numbers_of r → TellsDone Promise numbers after
      by (Ok d) p n t = record { written = d.written; fences = d.fences; state = d.state; told = t; promised = p }
      by (Err why) p n t = absurd (never_0 why (sym e ∙ n))

  pub tells_refused : (number ≡ 0 → ⊥) → TellsRefused Promise number numbers after
  tells_refused other = by call.what call.promised call.returned call.told
    where
      by : (r : Answer) → Promise r after → number ≡ number_in r → numbers ≡ numbers_of r → TellsRefused Promise number numbers after
      by (Ok d) p n t = absurd (other n)
      by (Err why) p n t =
          record { why = why; number_is = n; told = t ∙ ap (λ (k : ℕ). k ∷ place_of why ∷ 0 ∷ 0 ∷ 0 ∷ []) (sym n); promised = p }
