use Rattle.std.proofs.Common.{false, true, subst, sym}
use Rattle.std.proofs.lemmas.Bool.{true≢false}
use Rattle.sgt_explain_logs.proofs.Explanations.{refuted}
use Rattle.sgt_explain_logs.proofs.Heads.{closed-logs, few-bytes}
use Rattle.sgt_explain_logs.proofs.peeking.is_open.Goals as goal

pub returns-then-begins_with-clause-closed : goal.returns-then-begins_with-clause-closed
returns-then-begins_with-clause-closed c = λ closed. absurd (true≢false closed)

pub returns-then-begins_with-clause-few : goal.returns-then-begins_with-clause-few
returns-then-begins_with-clause-few c = λ opened.
    few-bytes false c.args.bytes.now (c.begins_with.ensures.0 c.if-begins_with.true)

pub returns-clause-closed : goal.returns-clause-closed
returns-clause-closed c = λ closed. closed-logs c.args.bytes.now
    (refuted c.begins_with.result c.begins_with.ensures c.if-begins_with.false)
    (refuted c.begins_with-2.result c.begins_with-2.ensures closed)

pub returns-clause-few : goal.returns-clause-few
returns-clause-few c = λ opened. few-bytes true c.args.bytes.now (c.begins_with-2.ensures.0 opened)

pub returns-then-begins_with-clause-opened : goal.returns-then-begins_with-clause-opened
returns-then-begins_with-clause-opened c = λ opened. (false, c.begins_with.ensures.0 c.if-begins_with.true)

pub returns-clause-opened : goal.returns-clause-opened
returns-clause-opened c = λ opened. (true, c.begins_with-2.ensures.0 opened)
