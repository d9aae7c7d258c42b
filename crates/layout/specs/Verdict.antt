-- Document 01: refusals 1, "a text, stream or image is over its limit"; 10, "an image is empty, has a broken last block, or a wrong number or
-- check", at the "lowest such block, counted from 0 by position; 0 if empty"; 11, "an image holds a value the layout bars", at the "lowest such
-- byte"; in this order.
use Rattle.std.specs.Prelude.{ℕ, ◌+◌, ◌/◌, max, cond, List, ltb, length, Option, Some, None, Ok, Err}
use Rattle.ground.specs.Lowest.{lowest}
use Rattle.answers.specs.declared.Refusal.{Refusal}
use Rattle.answers.specs.Answer.{Verdict}
use Rattle.places.specs.Layout.{limit}
use Rattle.blocks.specs.Wrong.{wrong}
use Rattle.barred.specs.Barred.{barred}

-- how many blocks there are by position, a broken last one counted; an empty image has a broken block 0
abbrev pub block_count : List ℕ → ℕ
block_count image = max 1 ((length image + 511) / 512)

-- the lowest wrong block and the lowest barred byte
abbrev pub lowest_wrong : List ℕ → Option ℕ
lowest_wrong image = lowest (wrong image) 0 (block_count image)

abbrev pub lowest_barred : List ℕ → Option ℕ
lowest_barred image = lowest (barred image) 0 (length image)

-- the verdict by these two
abbrev pub stages : Option ℕ → Option ℕ → Verdict
stages (Some b) byte = Err (Refusal.BrokenBlock b)
stages None (Some i) = Err (Refusal.BarredValue i)
stages None None = Ok tt

unfoldable pub verdict_of : List ℕ → Verdict
verdict_of image =
    cond (ltb limit (length image)) (Err Refusal.OverLimit) (stages (lowest_wrong image) (lowest_barred image))
