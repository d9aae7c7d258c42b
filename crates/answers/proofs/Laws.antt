-- Laws of writing to a buffer, which the calls that write cite. Assumes nothing.
use Rattle.std.proofs.Common.{Ok, Err}
use Prim.Native.Nat.{ℕ, ◌≤◌, ◌<◌}
use mathlib.Core.Path.{◌≡◌}
use mathlib.Core.List.{List, ◌++◌}
use borrow.Author.Tests.{le-leb, lt-leb}
use lib.ListN.{length, drop}
use Rattle.answers.specs.declared.Refusal.{Refusal}
use Rattle.answers.specs.Answer.{wrote}
use Rattle.answers.specs.Buffer.{buffer_with, answer_with}

pub buffer_fits : (text out : List ℕ) → length text ≤ length out → buffer_with text out ≡ text ++ drop (length text) out
unfolding buffer_with
buffer_fits text out l = rw (le-leb _ _ l)

pub buffer_not : (text out : List ℕ) → length out < length text → buffer_with text out ≡ out
unfolding buffer_with
buffer_not text out l = rw (lt-leb _ _ l)

pub answer_fits : (text : List ℕ) (fences state room : ℕ) → length text ≤ room
    → answer_with text fences state room ≡ Ok (wrote (length text) fences state)
unfolding answer_with
answer_fits text fences state room l = rw (le-leb _ _ l)

pub answer_not : (text : List ℕ) (fences state room : ℕ) → room < length text
    → answer_with text fences state room ≡ Err Refusal.BufferTooSmall
unfolding answer_with
answer_not text fences state room l = rw (lt-leb _ _ l)
