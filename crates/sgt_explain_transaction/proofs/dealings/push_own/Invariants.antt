use Rattle.std.proofs.Common.{◌≡◌, ◌++◌, None, drop}
use Rattle.std.specs.Prelude.{string_bytes}
use Rattle.sgt_explain_transaction.specs.Dealings.{own_text}
use Rattle.sgt_explain_transaction.proofs.dealings.push_own.Given as goal

abbrev pub invariant-loop-one : goal.invariant-loop-one
invariant-loop-one l = string_bytes l.out ++ own_text l.last (drop l.one-index l.own) ≡ string_bytes l.initial.out
    ++ own_text None l.own
