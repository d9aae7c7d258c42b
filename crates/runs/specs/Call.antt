-- The call. Document 01: "Order: way ..; upstream text (1, 2, 3); target text; ..; stream length; the earliest of 4, 5, 6 in the stream; ..;
-- 7 last." A stream has at most 4,096 operations. That 7 is last, and what the buffer holds then, is what delivering what is given means.
use Rattle.std.specs.Prelude.{ℕ, cond, List, ltb, length}
use Rattle.answers.specs.declared.Refusal.{Refusal}
use Rattle.answers.specs.Given.{Given, refuses}
use Rattle.shims.specs.declared.Models.{Models}
use Rattle.shims.specs.Models.{model_of}
use Rattle.shims.specs.Opening.{opened, on_opened}
use Rattle.runs.specs.Bytes.{direct}

-- the stream's own stage: it goes on, or is the call's refusal
abbrev pub on_stream : List ℕ → Given → Given
on_stream stream more = cond (ltb 4096 (length stream)) (refuses Refusal.OverLimit) more

-- what the run of a stream over two models gives
abbrev pub run_given : Models → List ℕ → Given
run_given m stream = on_stream stream (direct m.way (model_of m.upstream) (model_of m.target) stream)

-- what the whole call gives
abbrev pub outcome : ℕ → List ℕ → List ℕ → List ℕ → Given
outcome way upstream target stream = on_opened (opened way upstream target) λ (m : Models). run_given m stream
