use Rattle.std.proofs.Common.{◌≡◌, List}
use Rattle.std.specs.List.{filter}
use Rattle.sgt_explain_transaction.specs.declared.dealings.Own.{Own}
use Rattle.sgt_explain_transaction.specs.Dealings.{is_own}
use Rattle.sgt_explain_transaction.proofs.Reading.{IsRead}
use Rattle.sgt_explain_transaction.proofs.dealings.own_in.Given as goal

abbrev pub invariant-loop-line : goal.invariant-loop-line
invariant-loop-line l = (read : List Own) × IsRead l.bytes l.end l.line l.rest l.site read
    × (l.own.items ≡ filter (is_own l.tx) read)
