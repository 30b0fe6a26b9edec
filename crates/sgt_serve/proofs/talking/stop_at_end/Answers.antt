use Rattle.std.proofs.Common.{refl}
use Rattle.sgt_input.proofs.SiteLines.{empty_when, filled_when}
use Rattle.sgt_serve.proofs.Stops.{said_part}
use Rattle.sgt_serve.proofs.Talks.{said_nothing}
use Rattle.sgt_serve.proofs.talking.stop_at_end.Goals as goal

pub returns-then-is_empty-clause-stops : goal.returns-then-is_empty-clause-stops
returns-then-is_empty-clause-stops g c kept core =
    said_nothing kept core c.args.pipe.now.history c.args.rest.now
    (empty_when c.args.rest.now _ refl c.if-is_empty.ensures)

pub returns-clause-stops : goal.returns-clause-stops
returns-clause-stops g c kept core =
    said_part c.say.result kept core c.args.pipe.now.history c.say.new.pipe.history c.args.rest.now c.requires
    (filled_when c.args.rest.now _ refl c.if-is_empty.ensures) c.say.ensures.says
