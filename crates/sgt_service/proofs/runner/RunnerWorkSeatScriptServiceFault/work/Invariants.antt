use Rattle.std.proofs.Common.{◌≡◌, All, None, vec_len}
use Rattle.std.specs.Prelude.{IfSome}
use Rattle.std.specs.List.{last_or}
use Rattle.sgt_service.specs.Operations.{Tries}
use Rattle.sgt_service.specs.Tries.{AreTried, IsRefused, IsTryOf}
use Rattle.sgt_service.proofs.runner.RunnerWorkSeatScriptServiceFault.work.Given as goal

abbrev pub invariant-loop : goal.invariant-loop
invariant-loop g l = record {
  parts : l.seat.share.parts ≡ l.fn.seat.share.parts;
  begin_parts : l.seat.begins.parts ≡ l.fn.seat.begins.parts;
  tried : AreTried l.job.script.now.operations l.tickets.items l.fn.seat l.seat;
  refused : All IsRefused l.tickets.items;
  each : All (IsTryOf l.job.script.now.operations) l.tickets.items;
  last : IfSome (last_or None l.tickets.items) (λ t. Tries l.job.script.now.operations t l.reads.items);
  len : vec_len l.tickets ≡ l.counter;
}
