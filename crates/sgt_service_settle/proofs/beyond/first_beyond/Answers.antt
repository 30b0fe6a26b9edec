use Rattle.std.proofs.Common.{[], ◌∙◌, ap, sym, take, subst, arith}
use Rattle.std.proofs.lemmas.List.{take_all, flat_map_more}
use Rattle.sgt_names.proofs.Lists.{element_at, take_next}
use Rattle.sgt_certifier.specs.declared.call.Call.{Call as ACall}
use Rattle.sgt_service_settle.specs.Told.{handed_by, handed_in}
use Rattle.sgt_service_settle.specs.private.Sites.{IsLeastBeyond}
use Rattle.sgt_service_settle.proofs.beyond.first_beyond.Goals as goal

pub loop-call-preserved : goal.loop-call-preserved
loop-call-preserved c =
    let history = c.args.history.now in
    let n = c.loop-call.call-index in
    let call : ACall = c.call-item.result in
    let here = element_at history n call c.loop-call-test.true c.call-item.is in
    subst (λ hs. IsLeastBeyond c.args.sites hs c.beyond_of-least.result)
    (flat_map_more handed_by [] (take n history) call ∙ ap handed_in (sym (take_next history n call here)))
    (c.beyond_of-least.ensures (handed_in (take n history)) c.loop-call.invariant)

pub returns : goal.returns
returns c =
    let whole = take_all c.loop-call.call-index c.args.history.now (omega arith) in
    subst (λ calls. IsLeastBeyond c.args.sites (handed_in calls) c.loop-call.least) whole c.loop-call.invariant
