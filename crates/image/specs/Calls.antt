-- Document 01: "runs, generation and image reading exported on numbers and byte slices for the C host". The call reads an image and writes it
-- back; refusals, in this order: the image's (1, 10, 11), and 7. It also gives the way, the states, the upstream fences and the target fences
-- that the image holds; "A refusal returns its number and place, every other number zero".
use Rattle.std.specs.Prelude.{ℕ, ◌≡◌, List, [], ◌∷◌, Ok, Err}
use Rattle.ground.specs.Bytes.{at}
use Rattle.answers.specs.Answer.{Answer}
use Rattle.answers.specs.Given.{Given, gives, unless_refused, Delivers}
use Rattle.barred.specs.Barred.{states_of, upstream_fences_of, target_fences_of}
use Rattle.layout.specs.Verdict.{verdict_of}

-- what is written back is the image itself
unfoldable pub written_back : List ℕ → Given
written_back image = unless_refused (verdict_of image) λ _. gives image 0 0

-- the four numbers, by what the call answers
abbrev pub header_as : List ℕ → Answer → List ℕ
header_as image (Ok _) =
    at image 3 ∷ states_of image ∷ upstream_fences_of image ∷ target_fences_of image ∷ []
header_as image (Err why) = 0 ∷ 0 ∷ 0 ∷ 0 ∷ []

-- what the call promises: the image written back into that buffer, and the four numbers by what it answers
pub record Rewrites (image out header : List ℕ) (r : Answer) (after : List ℕ) : Type 0 where
  pub delivered : Delivers (written_back image) out r after
  pub header_told : header ≡ header_as image r
