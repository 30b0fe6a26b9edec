use Rattle.std.proofs.Common.{[], ℕ}
use Rattle.sgt_serve.specs.private.Talking.{desk}
use Rattle.sgt_serve.proofs.Stops.{flushed_none, said_long, stops_left, stops_then, unflushed}
use Rattle.sgt_serve.proofs.talking.stop_long.Goals as goal

pub returns-in-Ok-clause-stops : goal.returns-in-Ok-clause-stops
returns-in-Ok-clause-stops g c kept core =
    let old = desk kept core c.args.pipe.now.history c.args.answers.now.items c.args.rest.now in
    stops_left c.say.result old kept core c.say.new.pipe.history c.flush.new.answers.items c.args.rest.now
    c.in-Ok.ensures.none
    (stops_then c.say.result old (desk kept core c.flush.new.pipe.history [] c.args.rest.now)
    (desk kept core c.say.new.pipe.history [] c.args.rest.now)
    (flushed_none ℕ kept core c.args.pipe.now.history c.flush.new.pipe.history c.args.answers.now.items
    c.flush.new.answers.items c.args.rest.now c.in-Ok.ensures.flushes c.in-Ok.ensures.none)
    (said_long c.say.result kept core c.flush.new.pipe.history c.say.new.pipe.history c.args.rest.now c.requires
    c.say.ensures.says))

pub returns-in-Err-clause-stops : goal.returns-in-Err-clause-stops
returns-in-Err-clause-stops g c kept core =
    unflushed {E = ℕ} 0 kept core c.args.pipe.now.history c.flush.new.pipe.history c.args.answers.now.items
    c.flush.new.answers.items c.args.rest.now c.in-Err.ensures.flushes
