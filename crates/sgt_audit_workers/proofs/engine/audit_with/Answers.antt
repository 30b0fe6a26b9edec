use Rattle.std.proofs.Common.{IfSome, List, Option, arith, inl, subst, ℕ}
use Rattle.sgt_audit.specs.Verdict.{IsVerdict, SaysHeadline}
use Rattle.sgt_audit.proofs.Verdicts.{told-map, verdict-headline}
use Rattle.sgt_audit_workers.specs.Reads.{ReadsLittleFurther}
use Rattle.sgt_audit_workers.proofs.Answered.{valid-yes}
use Rattle.sgt_audit_workers.proofs.Given.{if_ok_map}
use Rattle.sgt_names.proofs.Devices.{wrote_nothing}
use Rattle.sgt_audit_workers.proofs.engine.audit_with.Goals as goal

pub returns-in-Err-clause-front : goal.returns-in-Err-clause-front
returns-in-Err-clause-front g c = inl (wrote_nothing (g.W.Sink.holds c.args.writer.now))

pub returns-clause-headline : goal.returns-clause-headline
returns-clause-headline g c =
    told-map (λ bytes. IsVerdict bytes c.in-Ok.judgement.verdict)
    (λ bytes. SaysHeadline bytes c.in-Ok.judgement.verdict) _ (λ bytes v. verdict-headline bytes _ v)
    c.in-Ok.ensures.verdict

pub returns-then-workers-lt2-clause-little_further : goal.returns-then-workers-lt2-clause-little_further
returns-then-workers-lt2-clause-little_further g c =
    if_ok_map c.audit.result _ _ c.audit.ensures.no_further
    (λ v far. told-map _ (λ bytes. ReadsLittleFurther c.args.workers bytes _) _
    (λ bytes reads n f first. omega (arith, reads n f first)) far)

pub returns-then-is_err-clause-quiet_valid : goal.returns-then-is_err-clause-quiet_valid
returns-then-is_err-clause-quiet_valid g c bytes is good other =
    let verdict =
    subst (λ (t : Option (List ℕ)). IfSome t (λ b. IsVerdict b c.in-Ok.judgement.verdict)) is
    c.in-Ok.ensures.verdict in
    c.in-Ok.ensures.yes (valid-yes bytes c.in-Ok.judgement.verdict good verdict)

pub returns-clause-quiet_valid : goal.returns-clause-quiet_valid
returns-clause-quiet_valid g c bytes is good other =
    let verdict =
    subst (λ (t : Option (List ℕ)). IfSome t (λ b. IsVerdict b c.in-Ok.judgement.verdict)) is
    c.in-Ok.ensures.verdict in
    c.in-Ok.ensures.yes (valid-yes bytes c.in-Ok.judgement.verdict good verdict)
