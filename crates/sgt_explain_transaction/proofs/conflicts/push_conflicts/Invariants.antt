use Rattle.std.proofs.Common.{List}
use Rattle.std.specs.Prelude.{string_bytes}
use Rattle.sgt_explain_transaction.specs.declared.dealings.Own.{Own}
use Rattle.sgt_explain_transaction.specs.Found.{ShowsMore, conflicts_among}
use Rattle.sgt_explain_transaction.proofs.Reading.{IsRead}
use Rattle.sgt_explain_transaction.proofs.conflicts.push_conflicts.Given as goal

abbrev pub invariant-loop-line : goal.invariant-loop-line
invariant-loop-line l = (read : List Own) × IsRead l.bytes l.end l.line l.rest l.site read
    × ShowsMore (conflicts_among l.sorted read) (string_bytes l.initial.out) 0 (string_bytes l.out) l.count
