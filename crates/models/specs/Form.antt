-- Document 01, refusal 2: "a text is not of the form, names' equality and total length aside".
use Rattle.std.specs.Prelude.{ℕ, ◌≡◌, List}
use Rattle.models.specs.Model.{Description, Formed}
use Rattle.models.specs.Text.{text_of}

-- a text of the form is the text of some model, whether or not two of its fences share a name
abbrev pub Form : List ℕ → Type 0
Form t = (d : Description) × Formed d × (t ≡ text_of d)
