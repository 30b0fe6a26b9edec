use Rattle.std.proofs.Common.{All, subst, sym}
use Rattle.sgt_history_kept.specs.Decided.{IsStepAmong}
use Rattle.sgt_history_kept.proofs.Leasts.{conflicts-among}
use Rattle.sgt_history_kept.proofs.least.steps_among.Goals as goal

pub loop-at-init : goal.loop-at-init
loop-at-init c =
    subst (All (IsStepAmong c.args.lines c.args.edges.now c.args.asked.now)) (sym c.in_ok-all.ensures.items)
    (conflicts-among c.args.lines c.args.asked.now c.args.edges.now c.requires)

pub loop-at-preserved : goal.loop-at-preserved
loop-at-preserved c = c.in_ok-put_step.ensures c.args.edges.now c.loop-at.invariant
