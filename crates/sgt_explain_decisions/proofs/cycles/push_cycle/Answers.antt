use Rattle.std.proofs.Common.{◌++◌, List, ap, sym, subst, ◌∙◌, take, take_all, arith, append_assoc}
use Rattle.std.specs.Prelude.{string_bytes}
use Rattle.sgt_names.proofs.Lists.{element_at, take_next}
use Rattle.sgt_bundle.specs.declared.certificate.Step.{Step}
use Rattle.sgt_explain_decisions.specs.Cycles.{Shows, step_text, TellsCycle}
use Rattle.sgt_explain_decisions.specs.Sought.{last_stop}
use Rattle.sgt_explain_decisions.proofs.Telling.{last_stop-next, cycle-next}
use Rattle.sgt_explain_decisions.proofs.cycles.push_cycle.Goals as goal

pub loop-step-preserved : goal.loop-step-preserved
loop-step-preserved c =
    let s = c.step-item.result in
    let i = c.loop-step.step-index in
    let walk = c.args.walk.now in
    let sought = c.args.sought.now in
    let tx = c.args.tx in
    let so_far = c.loop-step.invariant in
    let told = so_far.told in
    let shown = c.shown_by-shown.result in
    let text = step_text (last_stop tx (take i walk)) s shown in
    let next = sym (take_next walk i s (element_at walk i s (omega arith) c.step-item.is)) in
    let there = subst (λ k. Shows sought k s shown) so_far.from c.shown_by-shown.ensures in
    record {
      from = sym (last_stop-next tx (take i walk) s) ∙ ap (last_stop tx) next;
      told = (
        told.0 ++ text,
        subst (λ (w : List Step). TellsCycle sought tx w (told.0 ++ text)) next
            (cycle-next sought tx (take i walk) s told.0 shown told.1 there),
        c.in_ok-push_step.ensures ∙ ap (λ k. string_bytes c.loop-step.out ++ step_text k s shown) so_far.from
            ∙ ap (λ t. t ++ text) told.2
            ∙ append_assoc (string_bytes c.args.out.now) told.0 text,
      );
    }

pub returns : goal.returns
returns c =
    let told = c.loop-step.invariant.told in (
      told.0,
      subst (λ (w : List Step). TellsCycle c.args.sought.now c.args.tx w told.0)
          (take_all c.loop-step.step-index c.args.walk.now (omega arith)) told.1,
      told.2,
    )
