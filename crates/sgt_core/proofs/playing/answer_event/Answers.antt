use Rattle.std.proofs.Common.{◌∙◌, ◌∷◌, ◌++◌, List, ℕ, [], ap}
use Rattle.sgt_core_machine.specs.Machine.{GoesOn}
use Rattle.sgt_core.specs.Replay.{MayAnswer}
use Rattle.sgt_core.specs.Reply.{answer_text}
use Rattle.sgt_core.proofs.Running.{answers-step, answers-to_decide, replies-one}
use Rattle.sgt_core.proofs.playing.answer_event.Goals as goal
use Rattle.sgt_core.proofs.playing.answer_event.Goals.{in-One, in-ToDecide}

pub returns : goal.returns
returns c =
    let may : GoesOn (λ old new. MayAnswer old c.args.event.now c.match-event.reply new) c.args.core.now
    c.match-event.core =
    elim c.match-event.branch [
      | in-One w ↦ answers-step _ _ _ _ _ _ _ w.in-One.is w.core-is w.reply-is w.step-reply.ensures
      | in-ToDecide w ↦ answers-to_decide _ _ _ _ _ _ _ w.in-ToDecide.is w.core-is w.reply-is w.to_decide-reply.ensures
    ] in
    replies-one _ c.match-event.core c.args.event.now c.match-event.reply c.args.text.now.items _ (
      may,
      c.in_ok-check_memory.ensures,
    )
    (c.in_ok-push.ensures.items ∙ ap (λ (t : List ℕ). t ++ 10 ∷ [])
    (c.in_ok-write_reply.ensures.ok
    ∙ ap (λ (a : List ℕ). c.args.text.now.items ++ answer_text a c.match-event.reply) c.requires))
