-- Document 01: a table is "written as four rows for the earlier access in the order cld, cst, ld, st, each with columns for the later
-- access in the order ld, cld, st, cst", each cell by its letter. The model's text is shown there by an example; "Single spaces, a line
-- feed after each line and nothing else." "Each model has exactly one text."
use Rattle.std.specs.Prelude.{ℕ, List, [], ◌∷◌, ◌++◌}
use Rattle.ground.specs.Bytes.{bytes}
use Rattle.tables.specs.declared.table.Table.{Table}
use Rattle.tables.specs.declared.table.Row.{Row}
use Rattle.tables.specs.declared.table.Column.{Column}
use Rattle.tables.specs.Strength.{letter}
use Rattle.tables.specs.Table.{cell}
use Rattle.models.specs.Model.{Fence, Description}

abbrev pub row_text : Table → Row → List ℕ
row_text t r =
    letter (cell t r Column.Ld) ∷ letter (cell t r Column.Cld) ∷ letter (cell t r Column.St) ∷ letter (cell t r Column.Cst) ∷ []

abbrev pub table_text : Table → List ℕ
table_text t = row_text t Row.Cld ++ (bytes " " ++ (row_text t Row.Cst ++ (bytes " " ++ (row_text t Row.Ld ++ (bytes " " ++ row_text t Row.St)))))

-- the table's part of a line, with the line feed
abbrev pub table_part : Table → List ℕ
table_part t = table_text t ++ bytes "\n"

abbrev pub fence_text : Fence → List ℕ
fence_text f = bytes "fence " ++ (f.name ++ (bytes " " ++ table_part f.table))

abbrev pub fences_text : List Fence → List ℕ
fences_text [] = []
fences_text (f ∷ fs) = fence_text f ++ fences_text fs

-- the two lines above the fences
abbrev pub head_text : Description → List ℕ
head_text d = bytes "model " ++ (d.name ++ (bytes "\n" ++ (bytes "ppo " ++ table_part d.ppo)))

abbrev pub text_of : Description → List ℕ
text_of d = head_text d ++ (fences_text d.fences ++ bytes "end\n")
