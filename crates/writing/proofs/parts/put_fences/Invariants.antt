-- `put_fences` meets its contract: after n turns the first n lines stand there. Assumes nothing.
use Rattle.std.proofs.Common.{length}
use Rattle.printing.specs.Putting.{PutOn}
use Rattle.models.specs.Text.{fences_text}
use Rattle.writing.specs.Writing.{fences_of}
use Rattle.writing.proofs.parts.put_fences.Given as goal

abbrev pub invariant-loop-name : goal.invariant-loop-name
invariant-loop-name l = PutOn l.initial.page l.page (fences_text (fences_of (length l.yielded) l.fn.names l.fn.tables))
