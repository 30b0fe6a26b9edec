use Rattle.std.proofs.Common.{sym, ap, subst, ◌∙◌}
use Rattle.sgt_audit.specs.private.Stops.{IsJudged}
use Rattle.sgt_audit.specs.Verdict.{IsVerdict, yes_of}
use Rattle.sgt_audit.proofs.Verdicts.{kept-verdict}
use Rattle.sgt_audit.proofs.verdict.verdict_on.Goals as goal

pub returns-in-Ok : goal.returns-in-Ok
returns-in-Ok k bytes j = subst (IsVerdict bytes) (sym (k.yes_to.ensures ∙ ap yes_of k.decisions.ensures.same))
    (kept-verdict k.in-Ok.kept bytes (subst (λ q. IsJudged q bytes) k.in-Ok.is j))
