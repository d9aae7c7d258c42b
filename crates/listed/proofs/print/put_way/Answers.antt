-- `put_way` meets its contract: each way has its word. Assumes nothing.
use mathlib.Core.Path.{sym, ap}
use mathlib.Core.List.{◌++◌}
use Rattle.ground.specs.Bytes.{bytes}
use Rattle.rule.specs.declared.way.Way.{Way}
use Rattle.printing.proofs.Putting.{put_is, prints_put}
use Rattle.listed.specs.Printed.{way_word}
use Rattle.listed.proofs.print.put_way.Goals as goal

pub returns-in-Full : goal.returns-in-Full
returns-in-Full c =
    put_is (ap (λ (w : Way). way_word w ++ bytes "\n") (sym c.in-Full.is)) (prints_put c.put.ensures.prints)

pub returns-in-Sparing : goal.returns-in-Sparing
returns-in-Sparing c =
    put_is (ap (λ (w : Way). way_word w ++ bytes "\n") (sym c.in-Sparing.is)) (prints_put c.put-in-Sparing.ensures.prints)
