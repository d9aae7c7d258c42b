-- What a run's ending answers, and the stages before it: an image refused, a start out of range, a stream over its limit. Assumes nothing.
use Rattle.std.proofs.Common.{Result, Ok, Err}
use Prim.Native.Nat.{ℕ, ◌<◌, ◌≤◌}
use mathlib.Core.Path.{◌≡◌, sym, ap, subst, ◌∙◌}
use mathlib.Core.List.{List}
use native.Mathlib.Omega.{arith}
use borrow.Author.Tests.{lt-ltb, le-ltb, le-leb, lt-leb}
use lib.ListN.{length, take}
use Rattle.answers.specs.declared.Refusal.{Refusal}
use Rattle.answers.specs.Answer.{Answer, Verdict}
use Rattle.answers.specs.Given.{gives, refuses, Delivers}
use Rattle.answers.proofs.Given.{delivers_refusal, refusal_delivered, delivers_as}
use Rattle.image_runs.specs.declared.Stop.{Stop}
use Rattle.image_runs.specs.declared.Progress.{Progress}
use Rattle.barred.specs.Barred.{states_of}
use Rattle.layout.specs.Verdict.{verdict_of}
use Rattle.image_runs.specs.Run.{Walked, ended, stopped, walked, refusal_of, outcome_of, stream_limit, run_as, run_over}
use Rattle.image_runs.specs.inner.Walking.{Ends}

pub ends_refused : (r : Walked) (room : List ℕ) (why : Stop) (i : ℕ) (x : Refusal) → r ≡ stopped why i → x ≡ refusal_of why i → Ends r (Err x) room
ends_refused r room why i x e is = ap outcome_of e ∙ ap refuses (sym is)

module _ (r : Walked) (e : Result Progress Refusal) (room : List ℕ) (ends : Ends r e room) where
  pub run_refused : (why : Refusal) (out : List ℕ) (a : Answer) → e ≡ Err why → a ≡ Err why → Delivers (outcome_of r) out a out
  run_refused why out a h told =
      let s : outcome_of r ≡ refuses why = subst (λ (y : Result Progress Refusal). Ends r y room) h ends in
      refusal_delivered out s told

  pub run_fits : (p : Progress) → e ≡ Ok p → p.written ≤ length room
  run_fits p h = (subst (λ (y : Result Progress Refusal). Ends r y room) h ends).0

  pub run_given : (p : Progress) (out out' : List ℕ) (a : Answer) → e ≡ Ok p
      → Delivers (gives (take p.written room) p.fences p.state) out a out' → Delivers (outcome_of r) out a out'
  run_given p out out' a h w =
      let s : r ≡ ended (take p.written room) p.fences p.state = (subst (λ (y : Result Progress Refusal). Ends r y room) h ends).1 in
      delivers_as (ap outcome_of (sym s)) w

-- the stages of a run over an image that is accepted
module _ (image : List ℕ) (start : ℕ) (stream out : List ℕ) {n : ℕ} (states : n ≡ states_of image) where
  pub start_refused : n ≤ start → Delivers (run_as image start stream (Ok tt)) out (Err Refusal.OutOfRange) out
  start_refused l = rw (le-ltb start (states_of image) (omega arith)) (delivers_refusal out)

  pub length-refused : start < n → stream_limit < length stream
      → Delivers (run_as image start stream (Ok tt)) out (Err Refusal.OverLimit) out
  length-refused l k = rw (lt-ltb start (states_of image) (omega arith), lt-leb (length stream) stream_limit k) (delivers_refusal out)

  pub walk_given : {after : List ℕ} {r : Answer} → start < n → length stream ≤ stream_limit
      → Delivers (outcome_of (walked image start stream)) out r after → Delivers (run_as image start stream (Ok tt)) out r after
  walk_given l k d = rw (lt-ltb start (states_of image) (omega arith), le-leb (length stream) stream_limit k) d

-- by the verdict
pub by_verdict : (image : List ℕ) (start : ℕ) (stream : List ℕ) (v w : Verdict) → v ≡ verdict_of image → v ≡ w
    → run_as image start stream w ≡ run_over image start stream
unfolding run_over
by_verdict image start stream v w e h = ap (run_as image start stream) (sym h ∙ e)
