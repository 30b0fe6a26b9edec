use Rattle.sgt_workers.proofs.Lists.{zip_same}
use Rattle.sgt_workers.proofs.workers.no_jobs.Goals as goal

pub returns-clause-states : goal.returns-clause-states
returns-clause-states g c = zip_same g.W.Work.keeps c.args.states.items g.met.W.Work.keeps_same
