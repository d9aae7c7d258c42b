-- `put` meets its contract: it copies the text where there is room. Assumes nothing.
use Rattle.std.proofs.Common.{ℕ, ◌+◌, ◌-◌, ◌<◌, refl, arith, length}
use Rattle.std.proofs.lemmas.Slice.{put_mid-paste}
use Rattle.printing.proofs.Copying.{prints_not, prints_fits}
use Rattle.printing.proofs.Page.put.Goals.{then-self-via-then-self, then-self-via-else-self+then-self-text}
use Rattle.printing.proofs.Page.put.Goals as goal

pub returns-then-self-clause-prints : goal.returns-then-self-clause-prints
returns-then-self-clause-prints c =
    let page = c.args.self.now in
    let text = c.args.text.now in
    let full : length page.bytes.now < page.at + length text =
    elim c.then-self.branch [
      | then-self-via-then-self w ↦ omega (arith, w.if-self.true)
      | then-self-via-else-self+then-self-text w ↦ omega (arith, w.if-self.false, w.if-self-text.true)
    ] in
    prints_not page.bytes.now text page.at full refl

pub returns-clause-prints : goal.returns-clause-prints
returns-clause-prints c =
    let page = c.args.self.now in
    let text = c.args.text.now in
    let k : ℕ = page.at + length text - page.at in
    prints_fits page.bytes.now text page.at (omega arith)
    (put_mid-paste page.at k page.bytes.now c.copy.new.bytes text (length text) c.copy.ensures (omega arith) refl)
