use Rattle.std.proofs.Common.{arith, codes}
use Rattle.sgt_serial.specs.Text.{operation_line}
use Rattle.sgt_serial.proofs.Lines.{writes-line}
use Rattle.sgt_serial.proofs.text.push_reads.Goals as goal

pub loop-read-preserved : goal.loop-read-preserved
loop-read-preserved c =
    writes-line (operation_line (codes "r") c.args.tx) c.args.reads.now c.loop-read.read-index c.read-item.result (omega arith) c.read-item.is
    c.args.out.now.items c.loop-read.out.items c.push_read.new.out.items
    c.loop-read.invariant c.in_ok-push_read.ensures.ok
