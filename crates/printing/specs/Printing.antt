-- A text put into a buffer behind its first bytes. Where it does not fit the buffer stays as it was, and the place that is told is one more than
-- the buffer is long: nothing fits there, so a text that did not fit is told at the end of a chain of texts too.
use Rattle.std.specs.Prelude.{ℕ, suc, ◌+◌, ◌≡◌, cond, List, ◌++◌, leb, length, take, drop}

-- where n bytes end that are put behind the first `at` of a buffer with so much room
unfoldable pub placed : ℕ → ℕ → ℕ → ℕ
placed room at n = cond (leb (at + n) room) (at + n) (suc room)

-- the buffer after a text was put behind its first `at` bytes
unfoldable pub printed : ℕ → List ℕ → List ℕ → List ℕ
printed at text before =
    cond (leb (at + length text) (length before)) (take at before ++ text ++ drop (at + length text) before) before

-- what putting a text promises: `before` is the buffer before the call and `after` the buffer after it; r is the place that is told
pub record Prints (before after : List ℕ) (at r : ℕ) (text : List ℕ) : Type 0 where
  pub place : r ≡ placed (length before) at (length text)
  pub buffer : after ≡ printed at text before
