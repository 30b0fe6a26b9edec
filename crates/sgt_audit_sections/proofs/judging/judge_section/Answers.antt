use Rattle.std.proofs.Common.{◌+◌, subst, sym}
use Rattle.std.specs.Prelude.{IfOk}
use Rattle.sgt_audit.specs.Alone.{IsReadyAlone}
use Rattle.sgt_audit_decisions.specs.Steps.{AreStepsAt}
use Rattle.sgt_audit_sections.specs.Judged.{IsJudgedSection, IsUnderway, IsWhole}
use Rattle.sgt_audit_sections.specs.declared.judging.NextLine.{NextLine}
use Rattle.sgt_audit_sections.proofs.judging.judge_section.Goals as goal

pub judge_lines-requires-clause-steps : goal.judge_lines-requires-clause-steps
judge_lines-requires-clause-steps c =
    subst (λ (n : NextLine). AreStepsAt c.args.certificate.now.decisions n.site c.args.edges.now)
    (sym c.begin_section-next.ensures.next) c.requires.steps

pub returns-clause-judged : goal.returns-clause-judged
returns-clause-judged c =
    let s = c.args.alone.now.second in
    let cert = c.args.certificate.now in
    let bytes = c.args.bytes.now in
    let same = c.begin_section-next.ensures.next in
    let under = subst (λ (n : NextLine). IsUnderway s cert n.site bytes bytes n.line c.begin_section-next.new.alone)
    (sym same) (c.begin_section-next.ensures.underway bytes) in
    subst (λ (n : NextLine). IfOk c.judge_lines.result (IsJudgedSection s cert n.site bytes)) same
    (c.judge_lines.ensures.judged s bytes under)

pub returns-clause-ready : goal.returns-clause-ready
returns-clause-ready c =
    let s = c.args.alone.now.second in
    let cert = c.args.certificate.now in
    let bytes = c.args.bytes.now in
    let same = c.begin_section-next.ensures.next in
    let under = subst (λ (n : NextLine). IsUnderway s cert n.site bytes bytes n.line c.begin_section-next.new.alone)
    (sym same) (c.begin_section-next.ensures.underway bytes) in
    subst (λ (n : NextLine). IfOk c.judge_lines.result (λ j. IsWhole j
    → IsReadyAlone cert (n.site + 1) c.judge_lines.new.alone)) same (c.judge_lines.ensures.ready s bytes under)
