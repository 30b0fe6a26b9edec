use Rattle.std.proofs.Common.{inl}
use Rattle.sgt_audit.specs.Verdict.{IsVerdict, SaysHeadline}
use Rattle.sgt_audit.specs.private.Stops.{IsJudged}
use Rattle.sgt_audit.proofs.Verdicts.{told-map, verdict-headline}
use Rattle.sgt_names.proofs.Devices.{wrote_nothing}
use Rattle.sgt_audit.proofs.engine.audit.Goals as goal

pub returns-in-Err-clause-front : goal.returns-in-Err-clause-front
returns-in-Err-clause-front g c = inl (wrote_nothing (g.W.Sink.holds c.args.writer.now))

pub returns-clause-verdict : goal.returns-clause-verdict
returns-clause-verdict g c =
    told-map (IsJudged c.in-Ok.judged) (λ bytes. IsVerdict bytes c.verdict_on-verdict.result) _
    c.verdict_on-verdict.ensures c.in-Ok.ensures.judged

pub returns-clause-headline : goal.returns-clause-headline
returns-clause-headline g c =
    told-map (IsJudged c.in-Ok.judged) (λ bytes. SaysHeadline bytes c.verdict_on-verdict.result) _
    (λ bytes j. verdict-headline bytes _ (c.verdict_on-verdict.ensures bytes j)) c.in-Ok.ensures.judged
