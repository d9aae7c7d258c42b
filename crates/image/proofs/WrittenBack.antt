-- What is read from an image, into rows that have room for any machine, is the machine of the image, and is written back as the image itself.
-- Assumes nothing.
use Rattle.std.proofs.Common.{Ok, Err}
use Prim.Native.Nat.{ℕ, ◌*◌, ◌<◌, ◌≤◌}
use mathlib.Core.Path.{◌≡◌, refl, sym, ap, ap₂, ◌∙◌}
use mathlib.Core.List.{List, [], ◌∷◌}
use native.Mathlib.Omega.{arith}
use borrow.Author.Tests.{le-leb}
use lib.ListN.{length, take, drop, replicate, length-replicate}
use lib.Seq.{take_at}
use Rattle.ground.specs.Bytes.{at}
use Rattle.ground.proofs.Truths.{differ}
use Rattle.answers.specs.Buffer.{buffer_with}
use Rattle.answers.specs.declared.Refusal.{Refusal}
use Rattle.answers.specs.declared.Done.{Done}
use Rattle.answers.specs.Answer.{Answer, Verdict}
use Rattle.answers.specs.Given.{Given, gives, refuses, Delivers, unless_refused}
use Rattle.answers.proofs.Given.{refusal_delivered, delivers_as}
use Rattle.operations.specs.Alphabet.{stride}
use Rattle.image.specs.declared.machine.Header.{Header}
use Rattle.image.specs.Image.{Reading, image_of, header_of, rows_of, read_as, rows_as, ReadsTo}
use Rattle.barred.specs.Barred.{states_of, upstream_fences_of, target_fences_of}
use Rattle.layout.specs.Verdict.{verdict_of}
use Rattle.image.specs.Calls.{written_back, header_as}
use Rattle.image.proofs.Readings.{length-rows}
use Rattle.image.proofs.Theorems.{written_read}

-- the call's own rows
abbrev rows : List ℕ
rows = replicate (255 * stride) 0

module _ (image : List ℕ) (bytes : (i : ℕ) → at image i < 256) where
  -- they have room for any machine, so that only the image is refused
  room : states_of image * stride ≤ length rows
  room = omega (arith, bytes 4, length-replicate {A = ℕ} (255 * stride) 0)

  -- the header that is read, unless the image is refused
  abbrev read_by : Verdict → Reading
  read_by (Err why) = Err why
  read_by (Ok tt) = Ok (header_of image)

  read_is : (v : Verdict) → read_as image (length rows) v ≡ read_by v
  read_is (Err why) = refl
  read_is (Ok tt) = rw (le-leb (states_of image * stride) (length rows) room) refl

  accepted_rows : take (states_of image * stride) (rows_as image rows (Ok tt)) ≡ rows_of image
  unfolding buffer_with
  accepted_rows =
      rw (le-leb (length (rows_of image)) (length rows) (omega (arith, length-rows image, room)))
      (take_at (rows_of image) (drop (length (rows_of image)) rows) (states_of image * stride) (length-rows image))

  module _ (r : Reading) (rows' : List ℕ) (reads : ReadsTo image rows r rows') where
    by_verdict : r ≡ read_by (verdict_of image)
    by_verdict = reads.reading ∙ read_is (verdict_of image)

    -- what a call delivers that gives something of an image which is accepted
    pub given_refused : (given : Given) (why : Refusal) (out : List ℕ) (a : Answer) → r ≡ Err why → a ≡ Err why
        → Delivers (unless_refused (verdict_of image) λ _. given) out a out
    given_refused given why out a e told = by (verdict_of image) (sym by_verdict ∙ e)
      where
        by : (v : Verdict) → read_by v ≡ Err why → Delivers (unless_refused v λ _. given) out a out
        by (Ok tt) h = differ (cc)
        by (Err other) h = let same : other ≡ why = cc in refusal_delivered out (ap refuses same) told

    module _ (h : Header) (e : r ≡ Ok h) where
      pub accepted : verdict_of image ≡ Ok tt
      accepted = by (verdict_of image) refl (sym by_verdict ∙ e)
        where
          by : (v : Verdict) → verdict_of image ≡ v → read_by v ≡ Ok h → verdict_of image ≡ Ok tt
          by (Ok tt) v z = v
          by (Err why) v z = differ (cc)

      pub header_is : h ≡ header_of image
      header_is = let is : Path Reading (Ok h) (Ok (header_of image)) = sym e ∙ by_verdict ∙ ap read_by accepted in cc

      pub rows_are : (n : ℕ) → n ≡ h.states → take (n * stride) rows' ≡ rows_of image
      unfolding header_of
      rows_are n s =
          ap₂ (λ (k : ℕ) (l : List ℕ). take (k * stride) l) (s ∙ ap (λ (h : Header). h.states) header_is)
          (reads.filled ∙ ap (rows_as image rows) accepted)
          ∙ accepted_rows

      pub given_accepted : {given : Given} {out after : List ℕ} {a : Answer} → Delivers given out a after
          → Delivers (unless_refused (verdict_of image) λ _. given) out a after
      given_accepted {given} d = delivers_as (ap (λ (v : Verdict). unless_refused v λ _. given) (sym accepted)) d

      pub back_accepted : (n : ℕ) (out out' : List ℕ) (a : Answer) → n ≡ h.states
          → Delivers (gives (image_of h (take (n * stride) rows')) 0 0) out a out' → Delivers (written_back image) out a out'
      unfolding written_back
      back_accepted n out out' a s d =
          let same : image_of h (take (n * stride) rows') ≡ image = ap₂ image_of header_is (rows_are n s) ∙ written_read image bytes accepted in
          given_accepted (delivers_as (ap (λ (l : List ℕ). gives l 0 0) same) d)

-- the four numbers of an image that was written back
pub header_told : (image : List ℕ) (a : Answer) (d : Done) {way states ups targets : ℕ} → a ≡ Ok d
    → way ≡ at image 3 → states ≡ states_of image → ups ≡ upstream_fences_of image → targets ≡ target_fences_of image
    → way ∷ states ∷ ups ∷ targets ∷ [] ≡ header_as image a
header_told image a d e w s u t = cc
