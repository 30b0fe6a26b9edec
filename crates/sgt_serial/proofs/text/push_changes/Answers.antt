use Rattle.std.proofs.Common.{arith}
use Rattle.sgt_serial.specs.Text.{change_line}
use Rattle.sgt_serial.proofs.Lines.{writes-line}
use Rattle.sgt_serial.proofs.text.push_changes.Goals as goal

pub loop-write-preserved : goal.loop-write-preserved
loop-write-preserved c =
    writes-line (change_line c.args.tx) c.args.writes.now c.loop-write.write-index c.write-item.result
    (omega arith) c.write-item.is
    c.args.out.now.items c.loop-write.out.items c.push_change.new.out.items
    c.loop-write.invariant c.in_ok-push_change.ensures.ok
