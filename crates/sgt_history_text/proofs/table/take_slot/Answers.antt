use Rattle.std.proofs.Common.{arith}
use Rattle.sgt_history_text.proofs.Lookups.{new_from_free, table-with_slot}
use Rattle.sgt_history_text.proofs.table.take_slot.Goals as goal

pub returns-clause-interned : goal.returns-clause-interned
returns-clause-interned c = λ more t. (
  c.in-Some.ensures.0,
  c.in_ok-push.ensures.ok,
  new_from_free c.args.names.now c.args.slots.now.items more c.args.text.now c.args.slot t c.requires,
)

pub returns-clause-table : goal.returns-clause-table
returns-clause-table c = λ more t.
    rw (c.in_ok-push.ensures.ok, c.in-Some.ensures.0)
    (table-with_slot c.args.names.now c.args.slots.now.items more c.args.text.now c.args.slot
    (omega arith) t c.requires)
