use Rattle.std.proofs.Common.{sym, ◌∙◌}
use Rattle.sgt_names.proofs.Stored.{kept-next, passed-next}
use Rattle.sgt_names.proofs.item.keep_name.Goals as goal

pub loop-at-preserved : goal.loop-at-preserved
loop-at-preserved c = (
  c.loop-at.invariant.0,
  passed-next c.args.bytes.now c.loop-at.at c.loop-at-test.true c.loop-at.invariant.1 (sym c.is_later_byte.ensures
      ∙ c.if-not-is_later_byte.false),
  kept-next c.args.bytes.now c.loop-at.padded c.loop-at.at c.loop-at-test.true c.loop-at.invariant.0
      c.loop-at.invariant.2,
)
