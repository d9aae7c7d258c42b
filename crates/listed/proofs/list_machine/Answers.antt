-- `list_machine` meets its contract: each outcome is what the rule's machine comes to. Assumes nothing.
use Prim.Native.Nat.{ℕ}
use lib.ListN.{replicate, length-replicate}
use Rattle.listed.proofs.Made.{made_listable, made_listed}
use Rattle.listed.proofs.list_machine.Goals as goal

pub list_made-requires : goal.list_made-requires
list_made-requires c =
    made_listable c.args.models c.requires.0 c.args.output.now c.args.fences c.requires.1 (replicate 5100 0)
    c.make-made.new.rows (length-replicate {A = ℕ} 5100 0) c.make-made.result c.make-made.ensures

pub returns : goal.returns
returns c =
    made_listed c.args.models c.requires.0 c.args.output.now c.args.fences c.requires.1 (replicate 5100 0)
    c.make-made.new.rows (length-replicate {A = ℕ} 5100 0) c.make-made.ensures c.list_made.ensures
