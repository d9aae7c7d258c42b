-- Document 01: "7: what must be written exceeds the buffer", place 0; "every buffer keeps its former bytes"; "bytes past those written
-- stay".
use Rattle.std.specs.Prelude.{ℕ, cond, List, ◌++◌, leb, length, drop, Ok, Err}
use Rattle.answers.specs.declared.Refusal.{Refusal}
use Rattle.answers.specs.Answer.{Answer, wrote}

-- the buffer after bytes have been written to it
unfoldable pub buffer_with : List ℕ → List ℕ → List ℕ
buffer_with text out = cond (leb (length text) (length out)) (text ++ drop (length text) out) out

-- the answer of a call that writes text, with its fences and its end state, where the buffer has room for so many bytes
unfoldable pub answer_with : List ℕ → ℕ → ℕ → ℕ → Answer
answer_with text fences state room = cond (leb (length text) room) (Ok (wrote (length text) fences state)) (Err Refusal.BufferTooSmall)
