-- What reading an image gives: by the verdict, and of an accepted image by the room in the rows. Assumes nothing.
use Rattle.std.proofs.Common.{Ok, Err}
use Prim.Native.Nat.{ℕ, ◌*◌, ◌<◌, ◌≤◌}
use mathlib.Core.Path.{◌≡◌, refl, sym, ap, ap₂, subst, ◌∙◌}
use mathlib.Core.List.{List, ◌++◌}
use native.Mathlib.Omega.{arith}
use borrow.Author.Tests.{le-leb, lt-leb}
use lib.ListN.{length, take, drop}
use lib.Seq.{length-take-le}
use Rattle.answers.specs.Buffer.{buffer_with}
use Rattle.answers.specs.declared.Refusal.{Refusal}
use Rattle.answers.specs.Answer.{Verdict}
use Rattle.operations.specs.Alphabet.{stride}
use Rattle.image.specs.declared.machine.Header.{Header}
use Rattle.image.specs.Image.{Reading, listed, header_of, row_word, rows_of, ReadsAs, ReadsTo}
use Rattle.barred.specs.Barred.{states_of}
use Rattle.layout.specs.Verdict.{verdict_of}
use Rattle.image.proofs.Fronts.{length-listed}

pub length-rows : (image : List ℕ) → length (rows_of image) ≡ states_of image * stride
unfolding rows_of
length-rows image = length-listed _ _

module _ (image rows : List ℕ) (n : ℕ) (states : n ≡ states_of image) where
  pub read_short : (r : Reading) → length rows < n * stride → r ≡ Err Refusal.BufferTooSmall → ReadsAs (Ok tt) image rows r rows
  unfolding buffer_with
  read_short r l e =
      record {
        reading = rw (lt-leb (states_of image * stride) (length rows) (omega arith)) e;
        filled = rw (lt-leb (length (rows_of image)) (length rows) (omega (arith, length-rows image)));
      }

  pub read_whole : (new : List ℕ) (h : Header) → n * stride ≤ length rows → h ≡ header_of image
      → new ≡ listed (length (take (n * stride) rows)) (row_word image)
      → ReadsAs (Ok tt) image rows (Ok h) (new ++ drop (n * stride) rows)
  unfolding rows_of buffer_with
  read_whole new h l e f =
      let m : n * stride ≡ states_of image * stride = omega (arith, states) in
      let k : states_of image * stride ≤ length rows = omega arith in
      let fit : length (rows_of image) ≤ length rows = omega (arith, length-rows image) in
      let z : new ≡ rows_of image = f ∙ ap (λ (x : ℕ). listed x (row_word image)) (length-take-le (n * stride) rows l ∙ m) in
      record {
        reading = rw (le-leb (states_of image * stride) (length rows) k) (ap Ok e);
        filled = rw (le-leb _ _ fit, length-rows image) (ap₂ (λ (x : List ℕ) (y : ℕ). x ++ drop y rows) z m);
      }

-- an image that is refused leaves the rows as they were
pub read_refused : (image rows : List ℕ) (why : Refusal) (r : Reading) → r ≡ Err why → ReadsAs (Err why) image rows r rows
read_refused image rows why r e = record { reading = e; filled = refl }

-- by the verdict
pub reads_as : (image rows : List ℕ) (v w : Verdict) → v ≡ verdict_of image → v ≡ w → (r : Reading) (rows' : List ℕ) → ReadsAs w image rows r rows'
    → ReadsTo image rows r rows'
reads_as image rows v w verdict is r rows' h = subst (λ (x : Verdict). ReadsAs x image rows r rows') (sym is ∙ verdict) h
