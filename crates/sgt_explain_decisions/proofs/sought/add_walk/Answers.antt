use Rattle.std.proofs.Common.{refl, sym, ap, ◌∙◌, take, arith}
use Rattle.sgt_names.proofs.Lists.{element_at, take_next}
use Rattle.sgt_explain_decisions.specs.Sought.{last_stop}
use Rattle.sgt_explain_decisions.proofs.Telling.{last_stop-next}
use Rattle.sgt_explain_decisions.proofs.Seeking.{seeks-both, seeks-none, sought-none, walk-next}
use Rattle.sgt_explain_decisions.proofs.sought.add_walk.Goals as goal

pub loop-step-init : goal.loop-step-init
loop-step-init c = record {
  many = c.requires;
  from = refl;
  seeks = seeks-none c.args.sought.now c.args.classes.now.items;
  walk = sought-none c.args.sought.now c.args.tx c.args.walk.now;
}

pub loop-step-preserved : goal.loop-step-preserved
loop-step-preserved c =
    let s = c.step-item.result in
    let i = c.loop-step.step-index in
    let walk = c.args.walk.now in
    let tx = c.args.tx in
    let so_far = c.loop-step.invariant in
    let seeks = c.in_ok-seek.ensures.seeks in
    let at = element_at walk i s (omega arith) c.step-item.is in
    record {
      many = c.seek.ensures.length;
      from = sym (last_stop-next tx (take i walk) s) ∙ ap (last_stop tx) (sym (take_next walk i s at));
      seeks = seeks-both c.args.sought.now c.loop-step.sought c.seek.new.sought c.args.classes.now.items
          c.loop-step.classes.items c.seek.new.classes.items so_far.seeks seeks;
      walk = walk-next c.loop-step.sought c.seek.new.sought tx i c.loop-step.from walk s at so_far.from seeks.keys
          c.in_ok-seek.ensures.both so_far.walk;
    }

pub returns-clause-walk : goal.returns-clause-walk
returns-clause-walk c = λ place step less at. c.loop-step.invariant.walk place step (omega (arith, less)) at
