use Rattle.std.proofs.Common.{Ok, Err, ℕ}
use Rattle.sgt_serve.proofs.Stops.{flushed_some, unflushed}
use Rattle.sgt_serve.specs.Place.{kept_at}
use Rattle.sgt_serve.proofs.Talks.{taken_come}
use Rattle.sgt_serve.proofs.talking.take_line.Goals as goal

pub returns-in-Ok-take-clause-stops : goal.returns-in-Ok-take-clause-stops
returns-in-Ok-take-clause-stops g c sites before come =
    let kept = kept_at (g.B.Bundles.handed c.args.bundles.now) c.args.server.now.refusals in
    taken_come {E = ℕ} (Ok tt) c.args.n kept
    (kept_at (g.B.Bundles.handed c.take.new.bundles) c.take.new.self.refusals)
    c.args.server.now.core c.take.new.self.core
    c.flush_many.new.pipe.history c.flush_many.new.answers.items c.take.new.self.answers.items c.args.inbox.now.held
    c.take.new.inbox.held c.requires c.in-Ok-take.ensures.takes sites before
    (flushed_some ℕ kept c.args.server.now.core c.args.pipe.now.history
    c.flush_many.new.pipe.history c.args.server.now.answers.items
    c.flush_many.new.answers.items c.args.inbox.now.held c.in-Ok.ensures.flushes sites before come)

pub returns-in-Err-take-clause-stops : goal.returns-in-Err-take-clause-stops
returns-in-Err-take-clause-stops g c sites before come =
    let kept = kept_at (g.B.Bundles.handed c.args.bundles.now) c.args.server.now.refusals in
    taken_come {E = ℕ} (Err 0) c.args.n kept
    (kept_at (g.B.Bundles.handed c.take.new.bundles) c.take.new.self.refusals)
    c.args.server.now.core c.take.new.self.core
    c.flush_many.new.pipe.history c.flush_many.new.answers.items c.take.new.self.answers.items c.args.inbox.now.held
    c.take.new.inbox.held c.requires c.in-Err-take.ensures.takes sites before
    (flushed_some ℕ kept c.args.server.now.core c.args.pipe.now.history
    c.flush_many.new.pipe.history c.args.server.now.answers.items
    c.flush_many.new.answers.items c.args.inbox.now.held c.in-Ok.ensures.flushes sites before come)

pub returns-in-Err-clause-stops : goal.returns-in-Err-clause-stops
returns-in-Err-clause-stops g c =
    unflushed {E = ℕ} 0 (kept_at (g.B.Bundles.handed c.args.bundles.now) c.args.server.now.refusals)
    c.args.server.now.core c.args.pipe.now.history
    c.flush_many.new.pipe.history c.args.server.now.answers.items
    c.flush_many.new.answers.items c.args.inbox.now.held c.in-Err.ensures.flushes
