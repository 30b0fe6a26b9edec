use Rattle.std.proofs.Common.{arith}
use Rattle.sgt_history_evidence.proofs.Cutting.{line-within}
use Rattle.sgt_history_evidence.proofs.writers.first_writer.Goals as goal

pub returns-clause-none : goal.returns-clause-none
returns-clause-none c line w =
    let lt = line-within c.args.history.now.lines.items c.args.history.now.operations.items line w.t w.in_line in
    c.loop-line.invariant line (omega (arith, lt, c.loop-line-test.false)) w
