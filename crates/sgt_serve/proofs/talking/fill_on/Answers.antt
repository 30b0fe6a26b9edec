use Rattle.std.proofs.Common.{[]}
use Rattle.sgt_serve.specs.private.Talking.{desk}
use Rattle.sgt_serve.proofs.Stops.{stops_held, stops_then}
use Rattle.sgt_serve.proofs.Talks.{filled, unread}
use Rattle.sgt_serve.proofs.talking.fill_on.Goals as goal

pub returns-in-Ok-eq0-clause-stops : goal.returns-in-Ok-eq0-clause-stops
returns-in-Ok-eq0-clause-stops g c kept core =
    let f = c.in-Ok-eq0.ensures.ok in
    stops_then c.stop_at_end.result (desk kept core c.args.pipe.now.history [] c.args.inbox.now.held)
    (desk kept core c.fill.new.pipe.history [] c.fill.new.self.held)
    (desk kept core c.stop_at_end.new.pipe.history [] c.fill.new.self.held)
    (filled kept core c.args.pipe.now.history c.fill.new.pipe.history c.args.inbox.now.held c.fill.new.self.held f.0
    c.requires f.1 f.2 c.fill.ensures.written c.fill.ensures.waits)
    (stops_held c.stop_at_end.result kept core c.fill.new.pipe.history c.stop_at_end.new.pipe.history []
    [] c.held.result.now c.fill.new.self.held c.held.ensures
    (c.stop_at_end.ensures.stops kept core))

pub returns-in-Ok-clause-stops : goal.returns-in-Ok-clause-stops
returns-in-Ok-clause-stops g c kept core =
    let f = c.in-Ok.ensures.ok in
    filled kept core c.args.pipe.now.history c.fill.new.pipe.history c.args.inbox.now.held c.fill.new.self.held f.0
    c.requires f.1 f.2 c.fill.ensures.written c.fill.ensures.waits

pub returns-in-Err-clause-stops : goal.returns-in-Err-clause-stops
returns-in-Err-clause-stops g c kept core =
    unread kept core c.args.pipe.now.history c.fill.new.pipe.history c.args.inbox.now.held c.fill.new.self.held
    c.requires c.in-Err.ensures.err.1
    c.fill.ensures.written c.fill.ensures.waits
