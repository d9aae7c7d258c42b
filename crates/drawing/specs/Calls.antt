-- Document 02, W1: "Write each machine in the DOT graph language". A machine is given by its image, and any image that reads is drawn
-- (docs/DECISIONS.md). Refusals, in this order: the image's (1, 10, 11), and 7.
use Rattle.std.specs.Prelude.{ℕ, List}
use Rattle.answers.specs.Given.{Given, gives, unless_refused}
use Rattle.layout.specs.Verdict.{verdict_of}
use Rattle.image.specs.Image.{header_of, rows_of}
use Rattle.drawing.specs.Drawing.{drawing_of}

-- what drawing an image comes to
unfoldable pub drawn : List ℕ → Given
drawn image = unless_refused (verdict_of image) λ _. gives (drawing_of (header_of image) (rows_of image)) 0 0
