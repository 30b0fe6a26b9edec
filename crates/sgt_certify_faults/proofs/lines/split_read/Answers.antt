use Rattle.std.proofs.Common.{◌∙◌, sym, subst}
use Rattle.sgt_notation.specs.Spelling.{HasNoLf, line_text}
use Rattle.sgt_notation.proofs.OneSpelling.{cut_at_byte, line-one_line}
use Rattle.sgt_audit.proofs.OneFault.{has_lf}
use Rattle.sgt_notation.proofs.Texts.{has_no_lf}
use Rattle.sgt_certify_faults.proofs.lines.split_read.Goals as goal

pub returns-in_default-clause-none : goal.returns-in_default-clause-none
returns-in_default-clause-none c line more is text =
    has_lf (line_text line) more (subst HasNoLf text c.in_default.ensures.none)

pub returns-in-None-clause-none : goal.returns-in-None-clause-none
returns-in-None-clause-none c line more is text =
    let split = c.in-Some.ensures.some in
    c.in-None.ensures line is (cut_at_byte 10 c.in-Some.line.now (line_text line) c.in-Some.behind.now more
    (has_no_lf c.in-Some.line.now split.0) (line-one_line line is.0) (sym split.1 ∙ text)).0
