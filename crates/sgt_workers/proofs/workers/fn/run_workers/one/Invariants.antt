use Rattle.std.proofs.Common.{All, ◌≡◌, length}
use Rattle.crossbeam_channel.specs.Claims.{view, IsSeatAt}
use Rattle.crossbeam_channel.specs.Ends.{receives_on}
use Rattle.sgt_workers.specs.Answers.{jobs_of, IsAnswer, JobsRise, Runs}
use Rattle.sgt_workers.specs.Queue.{IsFilled}
use Rattle.sgt_workers.proofs.workers.fn.run_workers.one.Given as goal

abbrev pub invariant-loop : goal.invariant-loop
invariant-loop g l = record {
  can : (goal.iterator-loop g).can_next l.iterator';
  ends : (goal.iterator-loop g).is_finite l.iterator';
  seat : IsSeatAt (receives_on l.receiver) l.pass;
  filled : IsFilled (length l.scripts) (view l.pass);
  lent : (view l.pass).lent ≡ 1;
  taken : jobs_of l.dones.items ≡ (view l.pass).taken;
  keeps : g.W.Work.keeps l.fn.kit.state l.state;
  answers : All (IsAnswer (g.W.Work.answers l.work) l.scripts) l.dones.items;
  rising : JobsRise l.dones.items;
  runs : Runs (g.W.Work.does l.work) l.scripts l.fn.kit.state l.dones.items l.state;
}
