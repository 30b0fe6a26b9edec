use Rattle.sgt_audit.specs.Faults.{bytes_of}
use Rattle.sgt_explain.proofs.FaultyText.{block-at}
use Rattle.sgt_explain.proofs.ShownEntries.{shows-cut}
use Rattle.sgt_explain.proofs.Telling.{on-all}
use Rattle.sgt_explain.proofs.lines.tell_block.Goals as goal

pub returns : goal.returns
returns c =
    on-all _ c.push_block.result (λ first. shows-cut c.args.bytes.now c.args.number first c.push_block.result
    c.in_ok-section.section c.text_at.result.now _ _
    c.in_ok-section.ensures (c.text_at.ensures (bytes_of first.next) (block-at c.args.bytes.now c.args.number first))
    c.push_block.ensures.shown)
