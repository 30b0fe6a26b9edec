use Rattle.std.proofs.Common.{◌≡◌, ◌∷◌, ◌++◌, [], ◌∙◌, Some, ap, arith, get_or, set, subst, sym}
use Rattle.std.specs.Prelude.{slice_get}
use Rattle.std.proofs.lemmas.Result.{on_ok_weaker}
use Rattle.sgt_names.proofs.Lists.{element_at}
use Rattle.sgt_audit_decisions.specs.private.Grouped.{AreGrouped}
use Rattle.sgt_audit_decisions.proofs.Grouping.{grouped-past, grouped-more}
use Rattle.sgt_audit_decisions.proofs.steps.add_edge.Goals as goal

pub returns-then-site-groups : goal.returns-then-site-groups
returns-then-site-groups c edges is =
    grouped-past edges c.args.edge.now c.args.groups.now
    (omega (arith, c.if-site-groups.true, c.number-site.ensures.is)) is

pub returns : goal.returns
returns c =
    let groups = c.args.groups.now in
    let edge = c.args.edge.now in
    let n = c.number-site.result in
    let x = c.index-groups-site.result in
    let old = get_or groups n x in
    let here : slice_get groups n ≡ Some old = element_at groups n x (omega arith) c.index-groups-site.is
    ∙ ap Some c.index-groups-site.is in
    on_ok_weaker c.add.result (λ more edges is.
    subst (λ k. AreGrouped (edges ++ edge ∷ []) (set groups k c.add.new.self)) (sym c.number-site.ensures.is)
    (grouped-more edges edge groups old c.add.new.self
    (subst (λ k. slice_get groups k ≡ Some old) c.number-site.ensures.is here) more is)) c.add.ensures
