-- The contracts of `read`, `write` and `rewrite` allow one answer and one final buffer each. Assumes nothing.
use Prim.Native.Nat.{ℕ}
use mathlib.Core.Path.{◌≡◌, refl, sym, ap, ◌∙◌}
use mathlib.Core.List.{List}
use Rattle.answers.specs.Given.{gives, Delivers}
use Rattle.answers.specs.Answer.{Answer}
use Rattle.answers.proofs.Given.{delivers_one}
use Rattle.image.specs.declared.machine.Header.{Header}
use Rattle.image.specs.Image.{Reading, image_of, ReadsTo}
use Rattle.image.specs.Calls.{header_as, Rewrites}

pub read_one : (image rows : List ℕ) {after after' : List ℕ} {r r' : Reading} → ReadsTo image rows r after → ReadsTo image rows r' after'
    → (r ≡ r') × (after ≡ after')
read_one image rows a b = (a.reading ∙ sym b.reading, a.filled ∙ sym b.filled)

pub write_one : (h : Header) (rows : List ℕ) {out after after' : List ℕ} {r r' : Answer} → Delivers (gives (image_of h rows) 0 0) out r after
    → Delivers (gives (image_of h rows) 0 0) out r' after' → (r ≡ r') × (after ≡ after')
write_one h rows = delivers_one refl

pub rewrite_one : (image : List ℕ) {out header header' after after' : List ℕ} {r r' : Answer} → Rewrites image out header r after
    → Rewrites image out header' r' after' → (r ≡ r') × (header ≡ header') × (after ≡ after')
rewrite_one image a b =
    let e = delivers_one refl a.delivered b.delivered in
    (e.0, a.header_told ∙ ap (header_as image) e.0 ∙ sym b.header_told, e.1)
