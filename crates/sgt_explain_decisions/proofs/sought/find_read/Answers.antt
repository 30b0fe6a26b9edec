use Rattle.std.proofs.Common.{inr}
use Rattle.sgt_explain_lines.proofs.Numbering.{on-ok}
use Rattle.sgt_explain_decisions.proofs.sought.find_read.Goals as goal

pub returns-in-Logged-clause-any : goal.returns-in-Logged-clause-any
returns-in-Logged-clause-any c =
    on-ok c.take.result _ _
    (λ takes. inr (c.args.site.now, record { line = c.args.line; entry = c.in-Logged.entry }, takes))
    (c.take.ensures c.requires.marked)
