-- `next` meets its contract: with each group less is left. Assumes nothing.
use Rattle.std.proofs.Common.{rules, length, ◌<◌, arith}
use Rattle.cases.proofs.Bars.{behind_group}
use Rattle.cases.proofs.fields.GroupsIterator.next.Goals as goal

pub returns-clause-goes : goal.returns-clause-goes
returns-clause-goes c =
    let s = c.args.self.now.left.now in
    let some : 0 < length s = search rules in
    let one : 0 < c.max.result = omega (arith, c.max.ensures) in
    let less : length c.rest-self.result.now < length s = rw c.rest-self.ensures (behind_group c.max.result s one some) in
    search rules
