-- What a call says that it has written is within its buffer, since it says so only where it fits: a program's proof cites this. Assumes nothing.
use Rattle.std.proofs.Common.{Ok, Err}
use Prim.Native.Nat.{ℕ, ◌≤◌}
use mathlib.Core.Path.{◌≡◌, refl, ap}
use mathlib.Core.Bool.{Bool, true, false, cond}
use mathlib.Core.List.{List}
use native.Mathlib.Omega.{arith}
use borrow.Author.Tests.{leb-true}
use lib.Dec.{leb}
use lib.ListN.{length}
use Rattle.ground.proofs.Truths.{differ}
use Rattle.answers.specs.declared.Refusal.{Refusal}
use Rattle.answers.specs.declared.Done.{Done}
use Rattle.answers.specs.Answer.{Answer, wrote}
use Rattle.answers.specs.Buffer.{answer_with}
use Rattle.answers.specs.Given.{Given, gives, refuses, answer_of, Delivers, Answers}

answer_within : (text : List ℕ) (f z room : ℕ) (d : Done) → Ok d ≡ answer_with text f z room → d.written ≤ room
unfolding answer_with
answer_within text f z room d e = by (leb (length text) room) refl e
  where
    by : (q : Bool) → leb (length text) room ≡ q → Ok d ≡ cond q (Ok (wrote (length text) f z)) (Err Refusal.BufferTooSmall) → d.written ≤ room
    by true h e =
        let same : d ≡ wrote (length text) f z = cc in
        omega (arith, ap (λ (x : Done). x.written) same, leb-true (length text) room h)
    by false h e = differ (cc)

pub delivered_within : {x : Given} (out : List ℕ) {r : Answer} {after : List ℕ} {d : Done} → Delivers x out r after → r ≡ Ok d
    → d.written ≤ length out
delivered_within {x} out {d = ran} d e = by x ((cc))
  where
    by : (x : Given) → Ok ran ≡ answer_of x (length out) → ran.written ≤ length out
    by (gives text f z) e = answer_within text f z (length out) ran e
    by (refuses why) e = differ (cc)

pub listing_within : {P : Given → Type 0} (out : List ℕ) {r : Answer} {after : List ℕ} {d : Done} → Answers P out r after → r ≡ Ok d
    → d.written ≤ length out
listing_within out a e = delivered_within out a.delivered e
