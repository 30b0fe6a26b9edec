use Rattle.std.proofs.Common.{arith}
use Rattle.sgt_audit_workers.proofs.head.read_beside.Goals as goal

pub returns-in-Ok-Ok-clause-head : goal.returns-in-Ok-Ok-clause-head
returns-in-Ok-Ok-clause-head g c second line will =
    rw (c.in-Ok-Ok.is, c.in-Ok-Ok.field-0-is) at (c.finish.ensures second line will)

pub returns-in-Ok-Err-clause-fault : goal.returns-in-Ok-Err-clause-fault
returns-in-Ok-Err-clause-fault g c second line will =
    rw (c.in-Ok-Err.is, c.in-Ok-Err.field-0-is) at (c.finish.ensures second line will)

pub returns-in-Ok-Err-clause-held : goal.returns-in-Ok-Err-clause-held
returns-in-Ok-Err-clause-held g c first left is = (
  c.read_ahead-ahead.result.items,
  omega (arith, c.read_ahead-ahead.ensures.few, c.read_ahead-ahead.result.ok.0),
  c.read_ahead-ahead.ensures.read first left is,
)
