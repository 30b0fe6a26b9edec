use Rattle.std.proofs.Common.{rules}
use Rattle.sgt_history_text.proofs.Tries.{start_short, start_long}
use Rattle.sgt_history_text.proofs.table.start_of.Goals as goal

pub returns-then-size-lt2-clause-is : goal.returns-then-size-lt2-clause-is
returns-then-size-lt2-clause-is c = start_short c.args.text.now c.if-size-lt2.true

pub returns-clause-is : goal.returns-clause-is
returns-clause-is c = start_long c.args.text.now _ c.if-size-lt2.false (search rules)
