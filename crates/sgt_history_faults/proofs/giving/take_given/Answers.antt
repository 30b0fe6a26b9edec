use Rattle.std.proofs.Common.{◌≡◌, arith}
use Rattle.std.proofs.lemmas.Option.{slice_get-get_or}
use Rattle.sgt_history_faults.proofs.giving.take_given.Goals as goal

pub loop-place-preserved : goal.loop-place-preserved
loop-place-preserved c = record {
  taken = c.in_ok-put_given.ensures c.args.operations.now c.args.given.now.items
      (slice_get-get_or c.args.operations.now c.loop-place.place _ c.loop-place-test.true) c.loop-place.invariant.taken;
}
