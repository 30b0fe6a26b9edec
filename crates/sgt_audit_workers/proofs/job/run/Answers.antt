use Rattle.std.proofs.Common.{Bool, List, ℕ, ◌∙◌, refl, subst, IfOk}
use Rattle.sgt_audit_sections.specs.Judged.{IsJudgedSection}
use Rattle.sgt_audit_workers.proofs.Given.{if_ok_map}
use Rattle.sgt_audit_workers.proofs.job.run.Goals as goal

pub judge_section-judged-requires-clause-steps : goal.judge_section-judged-requires-clause-steps
judge_section-judged-requires-clause-steps c = c.at.ensures c.args.head.now.certificate.decisions c.requires.head.steps

pub returns : goal.returns
returns c =
    let h = c.args.head.now in
    let may = c.in-Ok.ensures c.args.job.site c.requires.idle in
    record {
      site = refl;
      section = refl;
      done = record {
        judged = subst (λ (second : Bool). IfOk c.judge_section-judged.result
            (IsJudgedSection second h.certificate c.args.job.site c.args.job.section.bytes.items)) may.1
            (subst (λ (bytes : List ℕ). IfOk c.judge_section-judged.result
            (IsJudgedSection c.in-Ok.alone.second h.certificate c.args.job.site bytes)) c.as_slice.ensures.value
            c.judge_section-judged.ensures.judged);
        ready = if_ok_map c.judge_section-judged.result _ _ c.judge_section-judged.ensures.ready
            (λ j ready whole. (ready whole, c.judge_section-judged.ensures.second ∙ may.1));
      };
    }
