use Rattle.std.proofs.Common.{◌≡◌, ◌+◌, length, take, arith, subst, sym, refl, ap, ◌∙◌, Some}
use Rattle.std.specs.Prelude.{All}
use Rattle.sgt_history.specs.Cut.{cut}
use Rattle.sgt_history_faults.specs.Collected.{IsCollected}
use Rattle.sgt_history_faults.specs.Mine.{IsItemBelow}
use Rattle.sgt_history_faults.proofs.Bounds.{begin-next}
use Rattle.sgt_history_faults.proofs.collecting.collect.Goals as goal

pub loop-line-preserved : goal.loop-line-preserved
loop-line-preserved c =
    let size : length c.loop-line.mine ≡ length c.collect_line.new.mine = omega (arith, c.collect_line.auto.mine) in
    record {
      begin = begin-next c.args.history.now.lines.items c.loop-line.line c.index.result.now
          (omega arith) c.index.ensures;
      items = subst (λ n. All (IsItemBelow n) c.args.history.now.operations.items) size c.loop-line.invariant.items;
      stamped = c.in_ok-collect_line.ensures.stamped;
      collected =
          subst (λ n. IsCollected (cut 0 c.args.history.now.lines.items c.args.history.now.operations.items)
          (c.loop-line.line + 1) n
          c.collect_line.new.collected.touches.items c.collect_line.new.collected.first) size
          c.in_ok-collect_line.ensures.collected;
    }
