use Rattle.std.proofs.Common.{All, sym, subst, arith}
use Rattle.sgt_names.proofs.Lists.{element_at, All-next, All-whole}
use Rattle.sgt_names.specs.Entry.{tx_of}
use Rattle.sgt_explain_lines.specs.declared.section.Logged.{Logged}
use Rattle.sgt_explain_decisions.specs.Ends.{HasEnd}
use Rattle.sgt_explain_decisions.proofs.ends.unended.Goals as goal

pub returns-clause-none : goal.returns-clause-none
returns-clause-none c =
    All-whole (λ (o : Logged). HasEnd c.args.entries.now (tx_of o.entry)) c.args.entries.now
    c.loop-logged.logged-index (omega (arith, c.loop-logged-test.false)) c.loop-logged.invariant

pub loop-logged-preserved : goal.loop-logged-preserved
loop-logged-preserved c =
    let entries = c.args.entries.now in
    let i = c.loop-logged.logged-index in
    let l = c.logged-item.result in
    All-next (λ (o : Logged). HasEnd entries (tx_of o.entry)) entries i l
    (element_at entries i l (omega arith) c.logged-item.is)
    (subst (HasEnd entries) c.tx.ensures
    (c.lacks_end.ensures.has (subst (All (HasEnd entries)) (sym c.as_slice.ensures.value) c.in_ok-ended.ensures)
    c.if-lacks_end.false)) c.loop-logged.invariant
