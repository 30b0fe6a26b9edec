use Rattle.std.proofs.Common.{subst}
use Rattle.sgt_site.specs.State.{SiteState}
use Rattle.sgt_edges.specs.Edges.{RefusesEdges, SeesTooNew}
use Rattle.sgt_step.proofs.Pledging.{given-back, not-too_new}
use Rattle.sgt_step.proofs.one_site.gather.Goals as goal

pub returns-in-Err-Memory-clause-err : goal.returns-in-Err-Memory-clause-err
returns-in-Err-Memory-clause-err c =
    given-back _ _ _ _ _ c.in_ok-pledge.ensures.allowed.free c.in_ok-pledge.ensures.ok c.give_back.ensures.given

pub unreachable-requires : goal.unreachable-requires
unreachable-requires c =
    let draft = c.args.draft.now.touched in
    let fault =
    subst (RefusesEdges c.pledge.new.self draft) c.in-Err-SeenTooNew.field-0-is
    c.in-Err-SeenTooNew.ensures.refused in
    not-too_new c.args.site.now c.args.tx draft c.in_ok-pledge.ensures.allowed.same
    (subst (λ (s : SiteState). SeesTooNew s draft) c.in_ok-pledge.ensures.ok fault)
