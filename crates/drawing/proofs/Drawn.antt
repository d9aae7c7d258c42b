-- What is drawn of an image is the drawing of the machine that was read, since the rows that were read into have room for it. Assumes nothing.
use Rattle.std.proofs.Common.{Ok, Err}
use Prim.Native.Nat.{ℕ, ◌*◌, ◌<◌, ◌≤◌}
use mathlib.Core.Path.{◌≡◌, sym, ap, ap₂, subst}
use mathlib.Core.List.{List}
use native.Mathlib.Omega.{arith}
use lib.ListN.{length, take, replicate}
use Rattle.ground.specs.Bytes.{at}
use Rattle.answers.specs.declared.Refusal.{Refusal}
use Rattle.answers.specs.Answer.{Answer}
use Rattle.answers.specs.Given.{gives, Delivers}
use Rattle.answers.proofs.Given.{delivers_as}
use Rattle.operations.specs.Alphabet.{stride}
use Rattle.layout.proofs.Faultless.{accepted_faultless}
use Rattle.image.specs.declared.machine.Header.{Header}
use Rattle.image.specs.Image.{Reading, header_of, rows_of, Canonical, ReadsTo}
use Rattle.image.proofs.Readings.{length-rows}
use Rattle.image.proofs.Accepted.{canonical_read}
use Rattle.image.proofs.WrittenBack.{given_refused, given_accepted, accepted, header_is, rows_are}
use Rattle.drawing.specs.Drawing.{drawing_of}
use Rattle.drawing.specs.Calls.{drawn}

module _ (image : List ℕ) (bytes : (i : ℕ) → at image i < 256) (r : Reading) (rows : List ℕ)
    (reads : ReadsTo image (replicate (255 * stride) 0) r rows) where
  pub drawn_refused : (why : Refusal) (out : List ℕ) (a : Answer) → r ≡ Err why → a ≡ Err why → Delivers (drawn image) out a out
  unfolding drawn
  drawn_refused why out a e told = given_refused image bytes r rows reads _ why out a e told

  module _ (h : Header) (e : r ≡ Ok h) (n : ℕ) (states : n ≡ h.states) where
    header : h ≡ header_of image
    header = header_is image bytes r rows reads h e

    words : take (n * stride) rows ≡ rows_of image
    words = rows_are image bytes r rows reads h e n states

    -- what the image tells is a machine of the layout, with words for all its states
    pub machine_read : Canonical h (take (n * stride) rows) × (h.states * stride ≤ length (take (n * stride) rows))
    unfolding header_of
    machine_read = (
      subst (λ (h : Header). Canonical h (take (n * stride) rows)) (sym header)
          (subst (Canonical (header_of image)) (sym words)
          (canonical_read image bytes (accepted_faultless image (accepted image bytes r rows reads h e)))),
      omega (arith, ap length words, length-rows image, ap (λ (h : Header). h.states) header),
    )

    pub drawn_accepted : (out after : List ℕ) (a : Answer) → Delivers (gives (drawing_of h (take (n * stride) rows)) 0 0) out a after
        → Delivers (drawn image) out a after
    unfolding drawn
    drawn_accepted out after a d =
        given_accepted image bytes r rows reads h e (delivers_as (ap (λ (t : List ℕ). gives t 0 0) (ap₂ drawing_of header words)) d)
