use Rattle.std.proofs.Common.{Option, Some}
use Prim.Native.Nat.{ℕ, ◌+◌, ◌-◌}
use mathlib.Core.Path.{◌≡◌, sym, ap, subst, ◌∙◌}
use mathlib.Core.Bool.{Bool}
use mathlib.Core.List.{List}
use native.Mathlib.Omega.{arith}
use lib.ListN.{length, take, drop, length-drop}
use Rattle.ground.specs.Bytes.{bytes, same_bytes}
use Rattle.listing.specs.inner.Finding.{LineEnd, LineOf}
use Rattle.listing.proofs.Lines.{line_last, line_more, more_so_far, text_found, part_rest}
use Rattle.listing.proofs.shape.text_end.Goals as goal

-- the line at a place, and whether it is `end`
module _ (t : List ℕ) (at n : ℕ) where
  line_at : {r : Option ℕ} → r ≡ Some n → LineEnd (take (length t - at) (drop at t)) r → LineOf (drop at t) n
  line_at e h = subst (λ (l : List ℕ). LineOf l n) (part_rest t at) (subst (LineEnd (take (length t - at) (drop at t))) e h)

  ends : {q r : Bool} → q ≡ same_bytes (take (at + n - at) (drop at t)) (bytes "end\n") → q ≡ r → same_bytes (take n (drop at t)) (bytes "end\n") ≡ r
  ends e f =
      let m : n ≡ at + n - at = omega arith in
      ap (λ (k : ℕ). same_bytes (take k (drop at t)) (bytes "end\n")) m ∙ sym e ∙ f

pub returns-then-same : goal.returns-then-same
returns-then-same c =
    let t = c.args.text.now in
    let l = c.loop-n in
    let line = line_at t l.at c.in-Some.n c.in-Some.is c.line_end.ensures in
    text_found t l.at l.invariant.1 l.invariant.0 (line_last line (ends t l.at c.in-Some.n c.same.ensures c.if-same.true))

pub loop-n-preserved : goal.loop-n-preserved
loop-n-preserved c =
    let t = c.args.text.now in
    let l = c.loop-n in
    let line = line_at t l.at c.in-Some.n c.in-Some.is c.line_end.ensures in (
      omega (arith, line.inside, length-drop l.at t),
      more_so_far t l.at l.invariant.1 (line_more line (ends t l.at c.in-Some.n c.same.ensures c.if-same.false)),
    )
