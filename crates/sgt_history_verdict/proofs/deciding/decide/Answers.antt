use Rattle.std.proofs.Common.{subst}
use Rattle.sgt_history.specs.Cut.{cut}
use Rattle.sgt_history_faults.specs.Judged.{IsJudged}
use Rattle.sgt_history_verdict.specs.declared.deciding.Verdict.TheVariants as verdict
use Rattle.sgt_history_verdict.proofs.Excluding.{exact}
use Rattle.sgt_history_verdict.proofs.deciding.decide.Goals as goal

pub decide_judged-requires : goal.decide_judged-requires
decide_judged-requires c =
    subst (IsJudged (cut 0 c.args.history.lines.items c.args.history.operations.items)) c.in-Faultless.is
    c.in_ok-judged.ensures

pub returns-in-Faulty-clause-verdict : goal.returns-in-Faulty-clause-verdict
returns-in-Faulty-clause-verdict c =
    subst (IsJudged (cut 0 c.args.history.lines.items c.args.history.operations.items)) c.in-Faulty.is
    c.in_ok-judged.ensures

pub returns-in-Faulty-clause-exact : goal.returns-in-Faulty-clause-exact
returns-in-Faulty-clause-exact c =
    exact (cut 0 c.args.history.lines.items c.args.history.operations.items) (verdict.Faulty c.in-Faulty.fault)
    (returns-in-Faulty-clause-verdict c)
