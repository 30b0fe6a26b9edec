use Rattle.std.proofs.Common.{◌≡◌, ◌++◌, [], ◌∙◌, ◌+◌, ap, sym, length, take, subst, arith}
use Rattle.std.proofs.lemmas.List.{take_all, flat_map_more}
use Rattle.sgt_names.proofs.Lists.{element_at, take_next}
use Rattle.sgt_certifier.specs.declared.call.Call.{Call as ACall}
use Rattle.sgt_service_settle.specs.Told.{handed_by, handed_in}
use Rattle.sgt_service_settle.specs.private.Words.{AreBySite}
use Rattle.sgt_service_settle.proofs.Rowing.{written_back}
use Rattle.sgt_service_settle.proofs.Siting.{sited_none}
use Rattle.sgt_service_settle.proofs.sited.by_site.Goals as goal

pub loop-call-init : goal.loop-call-init
loop-call-init c = record {
  long = c.in_ok-rows.ensures.long;
  sited = sited_none c.in_ok-rows.rows.items c.in_ok-rows.ensures.none;
}

pub loop-call-preserved : goal.loop-call-preserved
loop-call-preserved c =
    let history = c.args.history.now in
    let n = c.loop-call.call-index in
    let call : ACall = c.call-item.result in
    let here = element_at history n call c.loop-call-test.true c.call-item.is in
    let early = handed_in (take n history) in
    let inv = c.loop-call.invariant in
    let old = c.loop-call.rows in
    let new = c.add_call.new.rows in
    let long : length c.as_mut_slice.result.now ≡ length old.items = ap length c.as_mut_slice.ensures.value in
    let same : length new ≡ length c.as_mut_slice.result.now = c.add_call.auto.rows in
    let back = written_back old.items new old.len (omega (arith, old.ok.0, same, long)) in
    let next : early ++ handed_by call ≡ handed_in (take (n + 1) history) =
    flat_map_more handed_by [] (take n history) call ∙ ap handed_in (sym (take_next history n call here)) in
    let sited : AreBySite (early ++ handed_by call) new =
    c.in_ok-add_call.ensures early (subst (AreBySite early) (sym c.as_mut_slice.ensures.value) inv.sited) in
    record {
      long = ap length back ∙ (same ∙ (long ∙ inv.long));
      sited = subst (AreBySite (handed_in (take (n + 1) history))) (sym back)
          (subst (λ hs. AreBySite hs new) next sited);
    }

pub returns-clause-sited : goal.returns-clause-sited
returns-clause-sited c =
    let whole = take_all c.loop-call.call-index c.args.history.now (omega arith) in
    subst (λ calls. AreBySite (handed_in calls) c.loop-call.rows.items) whole c.loop-call.invariant.sited
