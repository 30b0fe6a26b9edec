use Rattle.std.proofs.Common.{◌≡◌, ◌+◌, length, take, arith, subst, max, sym, ◌∙◌, get_or, None}
use Rattle.std.specs.Prelude.{All}
use Rattle.sgt_names.proofs.Lists.{All-whole}
use Rattle.sgt_history.specs.declared.history.Kind.TheVariants.{Read}
use Rattle.sgt_history_faults.specs.Mine.{IsItemBelow}
use Rattle.sgt_history_faults.proofs.Bounds.{items-next}
use Rattle.sgt_history_faults.proofs.collecting.items_of.Goals as goal

pub loop-operation-preserved : goal.loop-operation-preserved
loop-operation-preserved c = record {
  all = items-next c.loop-operation.items c.greater-items.result c.loop-operation.operation-index c.args.operations.now
      (record { version = 0; item = 0; kind = Read; value = None }) c.loop-operation-test.true
      c.greater-items.ensures.one c.greater-items.ensures.other c.loop-operation.invariant.all;
}

pub returns : goal.returns
returns c = All-whole (IsItemBelow c.loop-operation.items) c.args.operations.now c.loop-operation.operation-index
    (omega arith)
    c.loop-operation.invariant.all
