use Rattle.std.proofs.Common.{arith, sym, ap, ◌∙◌, take}
use Rattle.std.specs.Prelude.{not}
use Rattle.sgt_names.proofs.Lists.{element_at, take_next}
use Rattle.sgt_explain_decisions.specs.Sought.{last_stop}
use Rattle.sgt_explain_decisions.proofs.Telling.{last_stop-next, shown-next, shown-pair}
use Rattle.sgt_explain_decisions.proofs.cycles.first_unmet.Goals as goal

pub loop-place-preserved : goal.loop-place-preserved
loop-place-preserved c =
    let walk = c.args.walk.now in
    let tx = c.args.tx in
    let place = c.loop-place.place in
    let step = c.index-walk-place.result in
    let at = element_at walk place step (omega arith) c.index-walk-place.is in
    let two = shown-pair c.args.sought.now c.loop-place.from step c.shown_by.result c.shown_by.ensures
    (c.is_none.ensures ∙ ap not c.if-is_none.false) in
    record {
      from = sym (last_stop-next tx (take place walk) step) ∙ ap (last_stop tx) (sym (take_next walk place step at));
      shown = shown-next c.args.sought.now tx c.loop-place.from place walk step two.0 at c.loop-place.invariant.from
          two.1 c.loop-place.invariant.shown;
    }
