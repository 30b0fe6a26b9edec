use Rattle.std.proofs.Common.{take}
use Rattle.std.specs.Prelude.{string_bytes}
use Rattle.sgt_explain_transaction.specs.Found.{ShowsMore, conflicts_with}
use Rattle.sgt_explain_transaction.proofs.conflicts.push_pairs.Given as goal

abbrev pub invariant-loop-own : goal.invariant-loop-own
invariant-loop-own l = ShowsMore (conflicts_with (take l.own-index l.run) l.other) (string_bytes l.initial.out)
    l.initial.count (string_bytes l.out) l.count
