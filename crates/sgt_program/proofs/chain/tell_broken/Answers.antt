use Rattle.sgt_program.proofs.Told.{wrote_none}
use Rattle.sgt_program.proofs.chain.tell_broken.Goals as goal

pub returns-in_default-clause-front : goal.returns-in_default-clause-front
returns-in_default-clause-front g c = wrote_none c.args.name.now (g.W.Sink.holds c.args.writer.now)
