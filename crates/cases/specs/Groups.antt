-- What the groups of fields give, one behind another.
use Rattle.std.specs.Prelude.{◌≡◌, ◌≢◌, ℕ, max, List, [], Option, MatchOption}
use Rattle.std.specs.Borrow.{Bor}
use Rattle.cases.specs.Fields.{from}
use Rattle.cases.specs.declared.fields.Groups.{Groups}

-- all that is left, and then what stands behind the group; nothing where nothing is left
abbrev pub GivesGroup : Groups → Option (Bor (List ℕ)) → Groups → Type 0
GivesGroup s given t =
    (t.size ≡ s.size)
    × MatchOption given ((s.left.now ≡ []) × (t.left.now ≡ []))
    (λ group. (s.left.now ≢ []) × (group.now ≡ s.left.now) × (t.left.now ≡ from (max s.size 1) s.left.now))
