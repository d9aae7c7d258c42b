-- Where each place stands: `stands_at` read backwards.
use Rattle.std.specs.Prelude.{ℕ, ◌+◌, ◌*◌, ◌%◌, ◌<◌, ◌≤◌, ◌≡◌}
use Rattle.places.specs.declared.Place.{Place}
use Rattle.places.specs.Layout.{position}

-- byte i is of this place
abbrev pub Stands : ℕ → Place → Type 0
Stands i Place.Number = i % 512 < 2
Stands i Place.Form = i ≡ 2
Stands i Place.Way = i ≡ 3
Stands i Place.States = i ≡ 4
Stands i Place.UpstreamFences = i ≡ 5
Stands i Place.TargetFences = i ≡ 6
Stands i (Place.UpstreamName k) = (i ≡ 7 + k) × (k < 16)
Stands i (Place.TargetName k) = (i ≡ 23 + k) × (k < 16)
Stands i (Place.Fence s a) = (i ≡ position 1 s (2 * a)) × (a < 4)
Stands i (Place.Next s a) = (i ≡ position 1 s (2 * a + 1)) × (a < 4)
Stands i (Place.FenceNext s f) = (i ≡ position 1 s (8 + f)) × (f < 16)
Stands i Place.Nothing = (2 ≤ i % 512) × (i % 512 < 510)
Stands i Place.Check = 510 ≤ i % 512
