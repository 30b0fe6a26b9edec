use Rattle.std.proofs.Common.{◌≡◌, inl, inr}
use Rattle.sgt_history_faults.proofs.Grouped.{not-duplicate}
use Rattle.sgt_history_faults.proofs.judging.judge_write.Goals as goal

pub returns-then-write-writer-clause-covered : goal.returns-then-write-writer-clause-covered
returns-then-write-writer-clause-covered c = λ writes flaw first write has.
    absurd (not-duplicate writes c.args.writer.now c.args.write.now flaw write first (inr c.if-write-writer.true) has)
