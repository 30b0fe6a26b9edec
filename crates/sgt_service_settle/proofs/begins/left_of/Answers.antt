use Rattle.std.proofs.Common.{◌+◌, arith}
use Rattle.sgt_service_settle.proofs.Beginning.{met_on, met_within}
use Rattle.sgt_names.proofs.Lists.{element_at}
use Rattle.sgt_service_settle.proofs.begins.left_of.Goals as goal

pub returns-then-left-told : goal.returns-then-left-told
returns-then-left-told c =
    let dones = c.args.dones.now in
    let n = c.loop-done.done-index in
    let here = element_at dones n c.done-item.result c.loop-done-test.true c.done-item.is in
    let inv = c.loop-done.invariant in
    omega (
      arith,
      inv,
      met_on dones n c.done-item.result here,
      met_within dones (n + 1),
      c.if-left-told.true,
      c.len-told.ensures,
    )

pub loop-done-preserved : goal.loop-done-preserved
loop-done-preserved c =
    let dones = c.args.dones.now in
    let n = c.loop-done.done-index in
    let here = element_at dones n c.done-item.result c.loop-done-test.true c.done-item.is in
    let inv = c.loop-done.invariant in
    omega (arith, inv, met_on dones n c.done-item.result here, c.if-left-told.false, c.len-told.ensures)
