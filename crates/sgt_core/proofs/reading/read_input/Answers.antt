use Rattle.sgt_input.proofs.SitedLines.{kept-input, none-begins, nothing-kept}
use Rattle.sgt_core.proofs.OneInput.{events-kind}
use Rattle.sgt_core.proofs.reading.read_input.Goals as goal

pub read_lines-requires-clause-begins : goal.read_lines-requires-clause-begins
read_lines-requires-clause-begins g c = none-begins events-kind

pub read_lines-requires-clause-fresh : goal.read_lines-requires-clause-fresh
read_lines-requires-clause-fresh g c = nothing-kept events-kind _ c.new.ensures.items c.new-2.ensures.items

pub returns-in-Ended-clause-read : goal.returns-in-Ended-clause-read
returns-in-Ended-clause-read g c =
    let taken = rw c.in-Ended.is at c.in_ok-read_lines.ensures.stops in
    (kept-input events-kind _ _ _ c.new-in-Ended.ensures c.new-in-Ended-2.ensures taken).1

pub returns-in-Ended-clause-usable : goal.returns-in-Ended-clause-usable
returns-in-Ended-clause-usable g c =
    let taken = rw c.in-Ended.is at c.in_ok-read_lines.ensures.stops in
    (kept-input events-kind _ _ _ c.new-in-Ended.ensures c.new-in-Ended-2.ensures taken).0
