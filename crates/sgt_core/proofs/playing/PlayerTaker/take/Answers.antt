use Rattle.std.proofs.Common.{Option, Some, subst}
use Rattle.sgt_core_machine.specs.Machine.{Parts}
use Rattle.sgt_core.specs.private.Playing.{HasPlayed}
use Rattle.sgt_core.proofs.PlayedLines.{event-played, idle-lines, line-played}
use Rattle.sgt_core.proofs.playing.PlayerTaker.take.Goals as goal

pub returns-in-Some : goal.returns-in-Some
returns-in-Some c lines begun took =
    let p = c.args.self.now in
    let (input, have, played) =
    subst (λ (core : Option Parts). HasPlayed p.sites.items core p.text.items lines) c.in-Some.is took in
    line-played c.answer_line.result input p.sites.items (Some c.answer_line.new.core) c.answer_line.new.text.items
    c.args.line.now lines have
    (event-played c.answer_line.result input p.sites.items c.in-Some.core c.answer_line.new.core c.args.line.now
    p.text.items c.answer_line.new.text.items played c.answer_line.ensures)

pub returns-in-None : goal.returns-in-None
returns-in-None c lines begun took =
    let p = c.args.self.now in
    line-played _ _ _ _ _ c.args.line.now lines
    (idle-lines p.sites.items p.core p.text.items lines c.in-None.is took).0 c.take_first.ensures

pub take_first-requires-clause-begun : goal.take_first-requires-clause-begun
take_first-requires-clause-begun c =
    let p = c.args.self.now in
    (idle-lines p.sites.items p.core p.text.items c.requires.0 c.in-None.is c.requires.2).0.0

pub take_first-requires-clause-empty : goal.take_first-requires-clause-empty
take_first-requires-clause-empty c =
    let p = c.args.self.now in
    (idle-lines p.sites.items p.core p.text.items c.requires.0 c.in-None.is c.requires.2).1
