use Rattle.std.proofs.Common.{rules, ℕ, [], ◌∷◌, length, sym, ap, arith}
use Rattle.std.proofs.lemmas.Iterator.{YieldsList-from_slice, YieldsList-from_zip, YieldsList-from_take}
use Rattle.std.proofs.lemmas.Iterator.Consumers.{YieldsList-turn, YieldsList-end}
use lib.ListN.{length-append, length-take}
use Rattle.std.specs.List.{zip}
use Rattle.std.proofs.lemmas.Slice.Zip.{length-zip}
use Rattle.printing.proofs.Putting.{put_none, put_is}
use Rattle.models.specs.Text.{fences_text}
use Rattle.writing.specs.Writing.{fences_of}
use Rattle.writing.proofs.Lines.{line_next, lines_put}
use Rattle.writing.proofs.parts.put_fences.Goals as goal

pub loop-name-init : goal.loop-name-init
unfolding fences_of
loop-name-init c = put_none

pub loop-name-preserved : goal.loop-name-preserved
loop-name-preserved c =
    let l = c.loop-name in
    let a = c.args in
    let turn =
    YieldsList-turn
    (YieldsList-from_take {s = c.into_iter-name-iterator.result} a.fences
    (YieldsList-from_zip (YieldsList-from_slice a.names (cc)) (YieldsList-from_slice a.tables (cc))) (search rules))
    l.yielded l.name-iterator l.yielded_by c.next.result c.next.new.self (c.in-Some.name, c.in-Some.packed) c.in-Some.is c.next.ensures.steps in
    put_is (ap (λ (n : ℕ). fences_text (fences_of n a.names a.tables)) (sym (length-append l.yielded ((c.in-Some.name, c.in-Some.packed) ∷ []))))
    (line_next a.names a.tables a.fences (length l.yielded) c.in-Some.name.now c.in-Some.packed.now turn.0 turn.1 l.invariant c.put_line.ensures)

pub returns : goal.returns
returns c =
    let l = c.loop-name in
    let a = c.args in
    let end =
    YieldsList-end
    (YieldsList-from_take {s = c.into_iter-name-iterator.result} a.fences
    (YieldsList-from_zip (YieldsList-from_slice a.names (cc)) (YieldsList-from_slice a.tables (cc))) (search rules))
    l.yielded l.name-iterator l.yielded_by c.next.result c.next.new.self c.in-None.is c.next.ensures.steps in
    lines_put a.names a.tables (length l.yielded) a.fences
    (omega (arith, end.1, length-take a.fences (zip a.names a.tables), length-zip a.names a.tables)) l.invariant
