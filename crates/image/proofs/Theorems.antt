-- The theorems about images, as a reader wants to find them. Assumes nothing.
use Rattle.std.proofs.Common.{Ok}
use Prim.Native.Nat.{ℕ, ◌*◌, ◌<◌, ◌≤◌}
use mathlib.Core.Path.{◌≡◌}
use mathlib.Core.List.{List}
use lib.ListN.{length, take}
use Rattle.ground.specs.Bytes.{at}
use Rattle.answers.specs.Answer.{Verdict}
use Rattle.operations.specs.Alphabet.{stride}
use Rattle.image.specs.declared.machine.Header.{Header}
use Rattle.places.specs.Layout.{blocks_for}
use Rattle.layout.specs.Verdict.{verdict_of}
use Rattle.layout.proofs.Faultless.{accepted_faultless}
use Rattle.image.specs.Image.{image_of, header_of, rows_of, Canonical, LaidOut}
use Rattle.image.proofs.Accepted.{image_same, canonical_read}
use Rattle.image.proofs.Canonicals.{length_image, canonical_accepted, same_header, same_rows_taken}

module _ (image : List ℕ) (bytes : (i : ℕ) → at image i < 256) where
  -- Writing what was read gives the bytes back.
  pub written_read : verdict_of image ≡ Ok tt → image_of (header_of image) (rows_of image) ≡ image
  written_read e = image_same image bytes (accepted_faultless image e)

  -- The images that are accepted are exactly those of the layout.
  pub accepted_exactly : (verdict_of image ≡ Ok tt → LaidOut image) × (LaidOut image → verdict_of image ≡ Ok tt)
  accepted_exactly = (
    (λ e.
        record {
          header = header_of image;
          rows = rows_of image;
          machine = canonical_read image bytes (accepted_faultless image e);
          image_of_lem = written_read e;
        }),
    (λ l. rw (← l.image_of_lem) (canonical_accepted l.header l.rows l.machine)),
  )

-- Reading what was written gives the machine back; and what is written has the length that its states want.
module _ (h : Header) (rows : List ℕ) (machine : Canonical h rows) where
  pub read_written_accepted : verdict_of (image_of h rows) ≡ Ok tt
  read_written_accepted = canonical_accepted h rows machine

  pub read_written_header : header_of (image_of h rows) ≡ h
  read_written_header = same_header h rows machine

  pub read_written_rows : h.states * stride ≤ length rows → rows_of (image_of h rows) ≡ take (h.states * stride) rows
  read_written_rows = same_rows_taken h rows machine

  pub written_length : length (image_of h rows) ≡ 512 * blocks_for 1 h.states
  written_length = length_image h rows machine
