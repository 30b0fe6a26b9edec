use Rattle.std.proofs.Common.{◌∙◌, sym}
use Rattle.sgt_serve.specs.Place.{kept_at}
use Rattle.sgt_serve.specs.private.Talking.{desk}
use Rattle.sgt_serve.proofs.Served.{is_served, reader_by, writer_by, yes_ended}
use Rattle.sgt_serve.proofs.engine.serve_talk.Goals as goal

pub returns-clause-serves : goal.returns-clause-serves
returns-clause-serves g c sites before opened asks =
    is_served c.talk-stop.result c.close-last.result c.ended.result _ sites before
    (kept_at (g.B.Bundles.handed c.close-last.new.bundles) c.close-last.new.refusals)
    (desk (kept_at (g.B.Bundles.handed c.talk-stop.new.bundles) c.talk-stop.new.server.refusals)
    c.talk-stop.new.server.core c.talk-stop.new.pipe.history
    c.talk-stop.new.server.answers.items c.talk-stop.new.inbox.held)
    c.ended.ensures c.talk-stop.ensures.ends (c.talk-stop.ensures.stops sites before opened asks) c.close-last.ensures

pub returns-clause-hears : goal.returns-clause-hears
returns-clause-hears g c =
    reader_by c.talk-stop.result c.close-last.result _ _ _ _ _ _ _ _ c.ended.ensures c.talk-stop.ensures.hears

pub returns-clause-speaks : goal.returns-clause-speaks
returns-clause-speaks g c =
    writer_by c.talk-stop.result c.close-last.result _ _ _ _ _ _ _ c.ended.ensures c.talk-stop.ensures.speaks

pub returns-clause-ends : goal.returns-clause-ends
returns-clause-ends g c =
    λ e. c.talk-stop.ensures.ends (yes_ended c.talk-stop.result c.close-last.result (sym c.ended.ensures ∙ e))
