-- The direct run byte by byte, with the situation of the past: what the code does. It is proved to be the run by the rule.
use Rattle.std.specs.Prelude.{ℕ, suc, ◌+◌, cond, List, [], ◌∷◌, ◌++◌, ltb, length, Result, Ok, Err}
use Rattle.answers.specs.declared.Refusal.{Refusal}
use Rattle.answers.specs.Given.{Given, gives, refuses}
use Rattle.operations.specs.declared.Kind.{Kind}
use Rattle.operations.specs.declared.Operation.{Operation}
use Rattle.operations.specs.Operation.{fence_byte, fence_bytes}
use Rattle.rule.specs.declared.situation.Situation.{Situation}
use Rattle.rule.specs.declared.way.Way.{Way}
use Rattle.rule.specs.Sides.{upstream_of, target_of}
use Rattle.rule.specs.declared.way.Step.{Step}
use Rattle.rule.specs.Pairs.{Model, table_at, fence_table}
use Rattle.rule.specs.Situation.{asks, stepped}
use Rattle.shims.specs.declared.Sides.{Sides}
use Rattle.runs.specs.declared.Move.{Move}
use Rattle.runs.specs.Bytes.{Judged, good, bad, judged, puts}

-- what one byte does
abbrev pub moved_by : ℕ → Step → Result Move Refusal
moved_by at (Step.Plain next) = Ok (Move.Plain next)
moved_by at (Step.Fenced g next) = Ok (Move.Fenced g next)
moved_by at Step.Refused = Err (Refusal.NoFenceWillDo at)

-- what an access of this kind does
abbrev pub accessed : Way → Model → Model → Situation → ℕ → Kind → Result Move Refusal
accessed way up target s at k = moved_by at (stepped way up.ppo target s k)

abbrev pub moved_as : Way → Model → Model → Situation → ℕ → Judged → Result Move Refusal
moved_as way up target s at (good (Operation.Access k)) = accessed way up target s at k
moved_as way up target s at (good (Operation.Fence f)) = Ok (Move.Silent (asks (fence_table up f) s))
moved_as way up target s at (bad why) = Err why

-- what an upstream fence of this number does
abbrev pub asked : List ℕ → Situation → ℕ → ℕ → Result Move Refusal
asked fences s at f = cond (ltb f (length fences)) (Ok (Move.Silent (asks (table_at fences f) s))) (Err (Refusal.NoSuchFence at))

abbrev pub moved : Way → Model → Model → Situation → ℕ → ℕ → Result Move Refusal
moved way up target s at b = moved_as way up target s at (judged (length up.fences) at b)

-- bytes, and then what follows
abbrev pub ahead : List ℕ → Given → Given
ahead bytes (gives rest fences state) = gives (bytes ++ rest) (fence_bytes bytes + fences) state
ahead bytes (refuses why) = refuses why

abbrev pub moves_on : ℕ → (Situation → Given) → Result Move Refusal → Given
moves_on b more (Ok (Move.Silent next)) = more next
moves_on b more (Ok (Move.Plain next)) = ahead (b ∷ []) (more next)
moves_on b more (Ok (Move.Fenced g next)) = ahead (fence_byte g ∷ b ∷ []) (more next)
moves_on b more (Err why) = refuses why

unfoldable pub moves : Way → Model → Model → Situation → ℕ → List ℕ → Given
moves way up target s at [] = puts []
moves way up target s at (b ∷ bytes) =
    moves_on b (λ (next : Situation). moves way up target next (suc at) bytes) (moved way up target s at b)

-- what is said of a way and two models, of the two sides as they are lent
abbrev pub for_sides : {A : Type 0} → (Way → Model → Model → A) → Sides → A
for_sides of s = of s.shim.way (upstream_of s.shim s.fences.now) (target_of s.shim s.targets.now)
