use Rattle.std.proofs.Common.{◌≤◌, ◌+◌, length, take}
use Rattle.std.specs.Prelude.{vec_len, vec_capacity}
use Rattle.sgt_core_model.specs.Step.{Run}
use Rattle.sgt_core_machine.specs.Machine.{GoesOn}
use Rattle.sgt_core_machine.proofs.driver.Core.run.Given as goal

abbrev pub invariant-loop-event : goal.invariant-loop-event
invariant-loop-event l = record {
  run : GoesOn (λ c d. Run c (take l.event-index l.events) l.replies.items d) l.fn.self l.self;
  room : vec_len l.replies + length l.events ≤ vec_capacity l.replies + l.event-index;
}
