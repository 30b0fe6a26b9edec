use Rattle.std.proofs.Common.{◌++◌, ◌∷◌, [], map, take, sym, ap, ◌∙◌, append_assoc}
use Rattle.std.proofs.lemmas.List.{map-append}
use Rattle.sgt_names.proofs.Lists.{take_next}
use Rattle.sgt_service_settle.specs.private.Words.{with_number}
use Rattle.sgt_service_settle.proofs.handed.add_edges.Goals as goal

pub loop-place-preserved : goal.loop-place-preserved
loop-place-preserved c =
    let f = with_number c.args.number in
    let old = c.args.handed.now.items in
    let before = take c.loop-place.place c.args.edges.now in
    let edge = c.at-edge.result in
    let next = ap (map f) (take_next c.args.edges.now c.loop-place.place edge c.at-edge.ensures)
    ∙ map-append f before (edge ∷ []) in
    c.in_ok-push.ensures.items
    ∙ (ap (λ z. z ++ f edge ∷ []) c.loop-place.invariant
    ∙ (append_assoc old (map f before) (f edge ∷ []) ∙ ap (λ z. old ++ z) (sym next)))
