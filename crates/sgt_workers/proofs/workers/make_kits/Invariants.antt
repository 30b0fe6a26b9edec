use Rattle.std.proofs.Common.{◌≡◌, All, length}
use Rattle.std.specs.List.{AllZip}
use Rattle.crossbeam_channel.specs.Claims.{view, IsSeatAt}
use Rattle.crossbeam_channel.specs.Ends.{sends_on}
use Rattle.sgt_workers.specs.Queue.{newcomer, lender}
use Rattle.sgt_workers.proofs.workers.make_kits.Given as goal

abbrev pub invariant-loop-state : goal.invariant-loop-state
invariant-loop-state g l = record {
  can : (goal.iterator-loop-state g).can_next l.state-iterator;
  ends : (goal.iterator-loop-state g).is_finite l.state-iterator;
  seat : IsSeatAt (sends_on l.sender) l.pass;
  same : view l.pass ≡ lender (length l.kits.items) (view l.fn.pass);
  kits : AllZip (λ s k. k.state ≡ s) l.yielded l.kits.items;
  passes : All (λ k. IsSeatAt (sends_on l.sender) k.pass × (view k.pass ≡ newcomer (view l.fn.pass))) l.kits.items;
}
