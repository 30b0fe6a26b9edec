use Rattle.std.proofs.Common.{ap, arith, length}
use Rattle.sgt_history_text.proofs.Appended.{goes_end, goes_fails, goes_next, goes_none}
use Rattle.sgt_history_text.proofs.putting.put_operations.Goals as goal

pub items-init : goal.items-init
items-init c = (goes_none c.args.reader.now c.args.builder.now, omega arith)

pub returns-in_default-clause-put : goal.returns-in_default-clause-put
returns-in_default-clause-put c =
    let fails = rw c.in_default.is at c.in_ok-still.ensures.put in
    goes_fails c.args.reader.now c.args.builder.now c.items.reader c.items.builder c.items.are c.items.invariant.0
    c.take_end_array.new.self c.items-test.ensures fails

pub items-preserved : goal.items-preserved
items-preserved c =
    let next = rw c.in-Some.is at c.in_ok-still.ensures.put in (
      goes_next c.args.reader.now c.args.builder.now c.items.reader c.items.builder c.items.are c.items.invariant.0
          c.take_end_array.new.self c.put_next.new.reader c.put_next.new.builder c.in-Some.still
          c.items-test.ensures next,
      omega (arith, c.put_next.ensures.fewer, ap length c.items-test.ensures.1, c.items.invariant.1),
    )

pub returns-clause-put : goal.returns-clause-put
returns-clause-put c =
    goes_end c.args.reader.now c.args.builder.now c.items.reader c.items.builder c.items.are c.items.invariant.0
    c.take_end_array.new.self c.items-test.ensures
