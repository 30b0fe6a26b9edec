use Rattle.std.proofs.Common.{[], ℕ}
use Rattle.sgt_serve.specs.private.Talking.{desk}
use Rattle.sgt_serve.proofs.Stops.{flushed_none, stops_or_left, stops_or_then, unflushed}
use Rattle.sgt_serve.proofs.talking.read_on.Goals as goal

pub returns-in-Ok-clause-stops : goal.returns-in-Ok-clause-stops
returns-in-Ok-clause-stops g c kept core =
    let old = desk kept core c.args.pipe.now.history c.args.answers.now.items c.args.inbox.now.held in
    stops_or_left c.fill_on.result old kept core c.fill_on.new.pipe.history c.flush.new.answers.items
    c.fill_on.new.inbox.held c.in-Ok.ensures.none
    (stops_or_then c.fill_on.result old (desk kept core c.flush.new.pipe.history [] c.args.inbox.now.held)
    (desk kept core c.fill_on.new.pipe.history [] c.fill_on.new.inbox.held)
    (flushed_none ℕ kept core c.args.pipe.now.history c.flush.new.pipe.history c.args.answers.now.items
    c.flush.new.answers.items c.args.inbox.now.held c.in-Ok.ensures.flushes c.in-Ok.ensures.none)
    (c.fill_on.ensures.stops kept core))

pub returns-in-Err-clause-stops : goal.returns-in-Err-clause-stops
returns-in-Err-clause-stops g c kept core =
    unflushed {E = ℕ} 0 kept core c.args.pipe.now.history c.flush.new.pipe.history c.args.answers.now.items
    c.flush.new.answers.items c.args.inbox.now.held c.in-Err.ensures.flushes
