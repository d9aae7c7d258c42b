-- Bytes as a stream of operations, and what is said of an input and an output. Document 01, "Streams and the rule"; the demands: "The output
-- carries the input's accesses in order. Every pair that the upstream model orders is kept at that strength by the target's default or by one fence
-- between the two. A fence stands before an access exactly when a pair ending there would otherwise fall short".
use Rattle.std.specs.Prelude.{ℕ, ◌<◌, ◌≤◌, ◌≡◌, true, ◌⊎◌, List, ◌++◌, map, length, Some}
use Rattle.tables.specs.declared.table.Row.{Row}
use Rattle.tables.specs.declared.table.Column.{Column}
use Rattle.tables.specs.Table.{cell}
use Rattle.operations.specs.declared.Operation.{Operation}
use Rattle.operations.specs.Operation.{byte_is}
use Rattle.rule.specs.declared.way.Way.{Way}
use Rattle.rule.specs.Stream.{Stream, fence, count, kind_at, HasFence, before, between, through}
use Rattle.rule.specs.Stream as streams
use Rattle.rule.specs.Pairs.{Model, fence_table, is_row, is_column, asked, Keeps, settled, Settled}
use Rattle.rule.specs.Rule.{Takes, done, run, Placing, every_fence}

-- each byte is the operation in its place
abbrev pub StreamIn : List ℕ → Stream → Type 0
StreamIn bytes s = map byte_is bytes ≡ map (λ (op : Operation). Some op) s

-- its fences are the model's
abbrev pub Own : Model → Stream → Type 0
Own m s = every_fence (λ (n : ℕ). n < length m.fences) s

-- what is asked of accesses i and j is at most the target's default, or at most one target fence that stands between the two
abbrev pub KeptByOne : Model → Model → Stream → Stream → ℕ → ℕ → Type 0
KeptByOne up target input output i j =
    (r : Row) (c : Column) → is_row (kind_at input i) r ≡ true → is_column (kind_at input j) c ≡ true
    → (asked up input i j r c ≤ cell target.ppo r c)
    ⊎ ((g : ℕ) × HasFence g (between i j output) × (asked up input i j r c ≤ cell (fence_table target g) r c))

-- before access j no pair that ends there would be short: after the input before it, and the output through the access before it
abbrev pub NoneShort : Model → Model → Stream → Stream → ℕ → Type 0
NoneShort up target input output j = Settled up target (before j input) (through j output) (kind_at input j)

-- fence g is the one that the way takes there: of those with which none would be short
abbrev pub TakenAt : Way → Model → Model → Stream → Stream → ℕ → ℕ → Type 0
TakenAt way up target input output j g =
    Takes way (λ (h : ℕ). settled up target (before j input) (through j output ++ fence h) (kind_at input j)) (length target.fences) g

-- what stands between access j of the output and the one before it: nothing where none would be short, and otherwise one fence, the one that the way
-- takes
abbrev pub FencedRight : Way → Model → Model → Stream → Stream → ℕ → Type 0
FencedRight way up target input output j =
    (NoneShort up target input output j → before j output ≡ through j output)
    × ((NoneShort up target input output j → ⊥)
    → (g : ℕ) × (before j output ≡ through j output ++ fence g) × TakenAt way up target input output j g)

-- an output is right for an input: it is the rule's, with all that follows from that
pub record Right (way : Way) (up target : Model) (input output : Stream) : Type 0 where
  pub accepted : run way up target input ≡ done output
  -- the same accesses in order, with fences of the target among them
  pub placing : Placing target input output
  pub kept : (i j : ℕ) → i < j → j < count input → KeptByOne up target input output i j
  pub fenced : (j : ℕ) → j < count input → FencedRight way up target input output j
  pub nothing_behind : through (count output) output ≡ output
  -- in the full way no placing that keeps every pair has fewer fences
  pub fewest : way ≡ Way.Full → (other : Stream) → Placing target input other → Keeps up target input other
      → streams.fences output ≤ streams.fences other
