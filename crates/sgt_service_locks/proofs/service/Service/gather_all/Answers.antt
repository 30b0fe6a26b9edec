use Rattle.std.proofs.Common.{rules, ◌∙◌, ◌+◌, arith, sym, subst}
use Rattle.sgt_certifier.specs.Kept.{Kept}
use Rattle.sgt_service_locks.specs.Guarded.{IsGathered, IsGatheredBelow}
use Rattle.sgt_service_locks.specs.Undecided.{RefusesGather}
use Rattle.sgt_service_locks.proofs.Gathering.{gathered_some, gathered_none}
use Rattle.sgt_service_locks.proofs.service.Service.gather_all.Goals as goal
use Rattle.sgt_service_locks.proofs.service.Service.gather_all.Goals.{then-contains+in_default, else-contains}

pub returns-in-Err-clause-refused : goal.returns-in-Err-clause-refused
returns-in-Err-clause-refused g c =
    let here = c.number_at-here.result in
    let site = c.in-Err.ensures.refused.0 in
    let active = c.args.active.now in
    let at_start =
    subst (λ (k : Kept). RefusesGather k.history here site active c.in-Err.fault) c.loop-place.invariant.certifier
    c.in-Err.ensures.refused.2 in (
      here,
      site,
      c.in-Err.ensures.refused.1,
      omega (arith, c.number_at-here.ensures, c.loop-place-test.true),
      c.of-touched.ensures.some here (sym c.contains.ensures ∙ c.if-contains.true),
      at_start,
    )

pub loop-place-preserved : goal.loop-place-preserved
loop-place-preserved g c =
    let i = c.loop-place.invariant in
    let active = c.args.active.now in
    let history = c.args.guarded.now.certifier.history in
    let place = c.loop-place.place in
    let here = c.number_at-here.result in
    let before = c.loop-place.edges in
    record {
      certifier = search rules;
      lost = search rules;
      given = search rules;
      below = search rules;
      within = omega (arith, c.loop-place-test.true);
      edges = elim c.if-contains.branch [
        | then-contains+in_default w ↦
            let e = w.in_default.ensures.edges in
            gathered_some history active place here before c.if-contains.edges e.0 c.number_at-here.ensures
            (c.of-touched.ensures.some here (sym c.contains.ensures ∙ w.if-contains.true)) i.edges
            (e.1, w.edges-is ∙ e.2, subst (λ (k : Kept). IsGathered k.history active here e.0 e.1) i.certifier e.3)
        | else-contains w ↦
            subst (λ edges. IsGatheredBelow history active (place + 1) edges) (sym w.edges-is)
            (gathered_none history active place here before c.number_at-here.ensures
            (c.of-touched.ensures.none here (sym c.contains.ensures ∙ w.if-contains.false)) i.edges)
      ];
    }
