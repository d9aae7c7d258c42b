-- `header` meets its contract, field by field. Assumes nothing.
use Rattle.image.specs.Image.{header_of}
use Rattle.image.proofs.reader.header.Goals as goal

pub returns : goal.returns
unfolding header_of
returns c =
    λ i. record {
      way = c.byte_at.ensures i;
      states = c.byte_at-2.ensures i;
      ups = c.byte_at-3.ensures i;
      targets = c.byte_at-4.ensures i;
      upstream = c.name_at.ensures i;
      target = c.name_at-2.ensures i;
    }
