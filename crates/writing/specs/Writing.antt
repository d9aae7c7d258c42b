-- The model that a value in memory holds, whatever it is: the name up to its first zero, and as many fences as there are, at most sixteen.
use Rattle.std.specs.Prelude.{ℕ, zero, suc, List, [], ◌∷◌}
use Rattle.printing.specs.Name.{unfilled}
use Rattle.models.specs.declared.model.Name.{Name}
use Rattle.models.specs.declared.model.Model.{Model}
use Rattle.models.specs.Model.{Fence, Description}

-- the first so many fences, or all where there are fewer names or tables
unfoldable pub fences_of : ℕ → List Name → List ℕ → List Fence
fences_of zero names tables = []
fences_of (suc k) [] tables = []
fences_of (suc k) (n ∷ names) [] = []
fences_of (suc k) (n ∷ names) (t ∷ tables) = record { name = unfilled n.bytes; table = record { packed = t } } ∷ fences_of k names tables

abbrev pub described : Model → Description
described m = record { name = unfilled m.name.bytes; ppo = m.ppo; fences = fences_of m.fences m.names m.tables }
