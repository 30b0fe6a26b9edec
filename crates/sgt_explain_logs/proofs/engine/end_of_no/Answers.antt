use Rattle.std.proofs.Common.{◌∙◌, sym}
use Rattle.sgt_explain_logs.proofs.Findings.{no-fault_line}
use Rattle.sgt_explain_logs.proofs.engine.end_of_no.Goals as goal

pub returns-in-Some : goal.returns-in-Some
returns-in-Some c = λ refusal lines told.
    absurd (no-fault_line refusal lines _ (sym told ∙ c.in-Some.ensures))
