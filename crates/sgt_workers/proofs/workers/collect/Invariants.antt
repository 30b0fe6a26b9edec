use Rattle.std.proofs.Common.{◌≡◌, All, length, map, true}
use Rattle.std.specs.Prelude.{◌⊎◌, vec_len}
use Rattle.std.specs.List.{flat_map}
use Rattle.crossbeam_channel.specs.Claims.{view, IsSeatAt}
use Rattle.crossbeam_channel.specs.Ends.{sends_on}
use Rattle.sgt_workers.specs.Answers.{jobs_of}
use Rattle.sgt_workers.specs.Queue.{IsEnded}
use Rattle.sgt_workers.proofs.workers.collect.Given as goal

abbrev pub invariant-loop-report : goal.invariant-loop-report
invariant-loop-report g l = record {
  dones : l.all.items ≡ flat_map (λ w. w.dones.items) l.yielded;
  states : l.states.items ≡ map (λ w. w.state) l.yielded;
  seat : IsSeatAt (sends_on l.sender) l.pass;
  taken : (view l.pass).taken ≡ jobs_of l.all.items;
  sent : ((view l.pass).sends ≡ (view l.fn.pass).sends) × ((view l.pass).sent ≡ (view l.fn.pass).sent);
  out : (view l.pass).out ≡ length l.report-iterator.rest.items;
  stopped : ((view l.pass).stopped ≡ true) ⊎ (length l.report-iterator.rest.items ≡ vec_len l.fn.reports);
  rest : All (λ w. IsEnded (sends_on l.sender) w.pass (jobs_of w.dones.items)) l.report-iterator.rest.items;
}
