use Rattle.std.proofs.Common.{List, ℕ, subst, sym}
use Rattle.sgt_audit_sections.specs.Judged.{GoesOn, IsUnderway}
use Rattle.sgt_audit_workers.proofs.long.judge_piece.Goals as goal

pub judge_lines-requires-clause-steps : goal.judge_lines-requires-clause-steps
judge_lines-requires-clause-steps c = c.at-edges.ensures c.args.head.now.certificate.decisions c.requires.head.steps

pub returns-clause-judged : goal.returns-clause-judged
returns-clause-judged c read under =
    let h = c.args.head.now in
    let here =
    subst (λ (b : List ℕ). IsUnderway h.second h.certificate c.args.next.site read b c.args.next.line
    c.args.alone.now) (sym c.as_slice-bytes.ensures.value) under in
    c.in_ok-judged.ensures.judged h.second read here

pub returns-clause-underway : goal.returns-clause-underway
returns-clause-underway c read under =
    let h = c.args.head.now in
    let here =
    subst (λ (b : List ℕ). IsUnderway h.second h.certificate c.args.next.site read b c.args.next.line
    c.args.alone.now) (sym c.as_slice-bytes.ensures.value) under in
    subst (λ (b : List ℕ). GoesOn h.second h.certificate c.args.next.site read b c.judge_lines.new.alone
    c.in_ok-judged.judged) c.as_slice-bytes.ensures.value (c.in_ok-judged.ensures.underway h.second read here)
