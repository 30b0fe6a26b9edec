use Rattle.std.proofs.Common.{◌≡◌, subst}
use Rattle.sgt_names.proofs.Lists.{All_in}
use Rattle.sgt_history_faults.specs.Group.{IsWrite, IsWriter}
use Rattle.sgt_history_faults.proofs.Grouped.{no-duplicate}
use Rattle.sgt_history_faults.proofs.judging.judge_any_writes.Goals as goal

pub returns-in-None-clause-covered : goal.returns-in-None-clause-covered
returns-in-None-clause-covered c = λ e flaw in_it has.
    absurd (no-duplicate c.args.writes.now e flaw (All_in IsWrite c.args.writes.now e c.requires.writes in_it)
    (subst (IsWriter c.args.writes.now) c.in-None.is c.requires.writer) has)
