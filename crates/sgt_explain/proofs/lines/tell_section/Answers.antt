use Rattle.sgt_audit.specs.Faults.{bytes_of}
use Rattle.sgt_explain.specs.Shown.{lines_before}
use Rattle.sgt_explain.proofs.FaultyLine.{section-line}
use Rattle.sgt_explain.proofs.FaultyText.{section-at}
use Rattle.sgt_explain.proofs.Telling.{on-all, on-both, on-ok}
use Rattle.sgt_explain.proofs.lines.tell_section.Goals as goal

pub returns : goal.returns
returns c = on-both _ _ c.push_section.result
    (on-all _ c.push_section.result (λ first. c.push_section.ensures.line (bytes_of first.next)
    (section-at c.args.bytes.now c.args.number first)))
    (on-all _ c.push_section.result (λ first.
    let line = section-line c.args.bytes.now c.args.number first in
    on-ok c.push_section.result
    (λ told. (c.in_ok-section.section, c.in_ok-section.ensures (lines_before first.stage) line.0 line.1, told))
    (c.push_section.ensures.text (bytes_of first.next) (section-at c.args.bytes.now c.args.number first))))
