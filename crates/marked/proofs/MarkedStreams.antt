-- The marked streams, by computation: both sides are the same table once they are worked out. Assumes nothing.
use mathlib.Core.Path.{◌≡◌, refl}
use mathlib.Core.List.{map}
use Rattle.tables.specs.Table.{table, merged_table}
use Rattle.ground.specs.Lowest.{lowest}
use Rattle.operations.specs.Operation.{byte_is, fence_bytes}
use Rattle.rule.specs.Pairs.{settled}
use Rattle.rule.specs.Rule.{rule, onward}
use Rattle.built_ins.specs.BuiltIns.{four_rows, under, built_ins, built_in}
use Rattle.models.specs.Reading.{head_at, fence_at, name_in, table_in, ended, lines_from, reading}
use Rattle.texts.specs.NamePart.{name_run, name_step}
use Rattle.texts.specs.Pattern.{follow}
use Rattle.runs.specs.Bytes.{operations, fault, direct}
use Rattle.marked.specs.Marked.{Entry, marked, given}

-- On every marked stream the call gives what document 01 says, from the models' texts to the bytes put out.
pub marked_streams : map given marked ≡ map (λ (e : Entry). e.gives) marked
unfolding lowest marked built_in built_ins four_rows under
    reading lines_from ended head_at fence_at name_in table_in follow name_run name_step table merged_table
    direct operations fault fence_bytes byte_is onward rule settled
marked_streams = refl
