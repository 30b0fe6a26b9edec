use Rattle.std.proofs.Common.{refl}
use Rattle.sgt_core.proofs.Running.{answers-step, answers-to_decide}
use Rattle.sgt_serve.proofs.turning.reply_to.Goals as goal

pub returns-in-One : goal.returns-in-One
returns-in-One c = answers-step _ _ _ _ _ _ _ c.in-One.is refl refl c.step.ensures

pub returns-in-ToDecide : goal.returns-in-ToDecide
returns-in-ToDecide c = answers-to_decide _ _ _ _ _ _ _ c.in-ToDecide.is refl refl c.to_decide.ensures
