use Rattle.std.proofs.Common.{Ok, Err, ℕ}
use Rattle.sgt_serve.specs.Place.{kept_at}
use Rattle.sgt_serve.proofs.Talks.{taken_first}
use Rattle.sgt_serve.proofs.talking.talk.Goals as goal

pub returns-in-Ok-clause-stops : goal.returns-in-Ok-clause-stops
returns-in-Ok-clause-stops g c sites before opened asks =
    c.talk_on.ensures.stops sites before
    (taken_first {E = ℕ} (Ok tt) c.args.n
    (kept_at (g.B.Bundles.handed c.args.bundles.now) c.args.server.now.refusals)
    (kept_at (g.B.Bundles.handed c.take.new.bundles) c.take.new.self.refusals)
    c.args.server.now.core c.take.new.self.core
    c.args.pipe.now.history c.args.server.now.answers.items c.take.new.self.answers.items c.args.inbox.now.held
    c.take.new.inbox.held c.requires c.in-Ok.ensures.takes
    sites before opened asks)

pub returns-in-Err-clause-stops : goal.returns-in-Err-clause-stops
returns-in-Err-clause-stops g c sites before opened asks =
    taken_first {E = ℕ} (Err 0) c.args.n
    (kept_at (g.B.Bundles.handed c.args.bundles.now) c.args.server.now.refusals)
    (kept_at (g.B.Bundles.handed c.take.new.bundles) c.take.new.self.refusals)
    c.args.server.now.core c.take.new.self.core
    c.args.pipe.now.history c.args.server.now.answers.items c.take.new.self.answers.items c.args.inbox.now.held
    c.take.new.inbox.held c.requires c.in-Err.ensures.takes
    sites before opened asks
