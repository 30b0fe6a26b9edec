use Rattle.std.proofs.Common.{Option, subst}
use Rattle.sgt_core_machine.specs.Machine.{Parts}
use Rattle.sgt_core.specs.private.Playing.{HasPlayed}
use Rattle.sgt_core.proofs.PlayedLines.{front-line, front-played}
use Rattle.sgt_core.proofs.playing.PlayerTaker.take_front.Goals as goal

pub answer_event-requires : goal.answer_event-requires
answer_event-requires c =
    let found = c.in-Some-front_event.ensures in
    front-line _ c.args.held.now c.in-Some-front_event.n found.1 found.2

pub returns : goal.returns
returns c lines begun took =
    let p = c.args.self.now in
    let found = c.in-Some-front_event.ensures in
    let (input, have, played) =
    subst (λ (core : Option Parts). HasPlayed p.sites.items core p.text.items lines) c.in-Some.is took in
    front-played c.in-Some-front_event.event input p.sites.items c.in-Some.core c.answer_event.new.core
    c.args.held.now p.text.items
    c.answer_event.new.text.items lines c.in-Some-front_event.n have played found.0 found.1 found.2
    c.in_ok-answer_event.ensures
