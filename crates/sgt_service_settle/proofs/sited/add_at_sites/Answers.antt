use Rattle.std.proofs.Common.{◌++◌, ◌∷◌, [], map, take, sym, ap, subst, ◌∙◌, append_assoc}
use Rattle.std.proofs.lemmas.List.{map-append}
use Rattle.sgt_names.proofs.Lists.{take_next}
use Rattle.sgt_service_settle.specs.private.Words.{with_number, AreBySite}
use Rattle.sgt_service_settle.proofs.sited.add_at_sites.Goals as goal

pub loop-place-preserved : goal.loop-place-preserved
loop-place-preserved c before is =
    let f = with_number c.args.number in
    let early = map f (take c.loop-place.place c.args.edges.now) in
    let edge = c.at-edge.result in
    let next = ap (map f) (take_next c.args.edges.now c.loop-place.place edge c.at-edge.ensures)
    ∙ map-append f (take c.loop-place.place c.args.edges.now) (edge ∷ []) in
    subst (λ hs. AreBySite hs c.add_at_site.new.rows) (append_assoc before early (f edge ∷ [])
    ∙ ap (λ z. before ++ z) (sym next)) (c.in_ok-add_at_site.ensures (before ++ early) (c.loop-place.invariant before is))
