use Rattle.std.proofs.Common.{sym, ap, ◌∙◌, Some}
use Rattle.sgt_notation.proofs.OneSpelling.{line-one}
use Rattle.sgt_explain_lines.proofs.Numbering.{line-at}
use Rattle.sgt_explain_lines.proofs.section.section_line_at.Goals as goal

pub returns-in-Ok : goal.returns-in-Ok
returns-in-Ok c = λ before line h.
    let text = line-at c.args.bytes.now c.after_line.result.now c.cut_line.result.0.now c.cut_line.result.1.now
    c.args.number c.saturating_sub.result before line h c.saturating_sub.ensures c.after_line.ensures
    c.cut_line.ensures.cut in
    ap Some (line-one c.in-Ok.read line c.in-Ok.ensures.0 h.one (sym c.in-Ok.ensures.1 ∙ text))

pub returns-in-Err : goal.returns-in-Err
returns-in-Err c = λ before line h.
    let text = line-at c.args.bytes.now c.after_line.result.now c.cut_line.result.0.now c.cut_line.result.1.now
    c.args.number c.saturating_sub.result before line h c.saturating_sub.ensures c.after_line.ensures
    c.cut_line.ensures.cut in
    absurd (c.in-Err.ensures.1 line h.one text)
