-- `generate_models` meets its contract: what is given is by the outcome of making, whose machine is small. Assumes nothing.
use Rattle.generation.proofs.Stages.{small_made}
use Rattle.generation.proofs.generate_models.Goals as goal

pub write_made-requires : goal.write_made-requires
write_made-requires c = small_made _ _ _ _ c.make-made.ensures
