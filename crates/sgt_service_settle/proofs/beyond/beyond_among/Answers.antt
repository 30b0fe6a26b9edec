use Rattle.std.proofs.Common.{◌≤◌, ◌++◌, ◌∷◌, [], Some, map, take, sym, ap, subst, arith, ◌∙◌, append_assoc}
use Rattle.std.proofs.lemmas.List.{map-append, take_all}
use Rattle.sgt_names.proofs.Lists.{take_next}
use Rattle.sgt_service_settle.specs.declared.handed.Handed.{Handed as AHanded}
use Rattle.sgt_service_settle.specs.private.Words.{with_number, lesser}
use Rattle.sgt_service_settle.specs.private.Sites.{IsLeastBeyond}
use Rattle.sgt_service_settle.proofs.Leasts.{least_hit, least_miss}
use Rattle.sgt_service_settle.proofs.beyond.beyond_among.Goals as goal
use Rattle.sgt_service_settle.proofs.beyond.beyond_among.Goals.{then-sites-number, else-sites-number}

pub loop-place-preserved : goal.loop-place-preserved
loop-place-preserved c before number is =
    let f = with_number number in
    let early = map f (take c.loop-place.place c.args.edges.now) in
    let edge = c.at-site.result in
    let next = append_assoc before early (f edge ∷ [])
    ∙ ap (λ z. before ++ z) (sym (ap (map f) (take_next c.args.edges.now c.loop-place.place edge c.at-site.ensures)
    ∙ map-append f (take c.loop-place.place c.args.edges.now) (edge ∷ []))) in
    let inv = c.loop-place.invariant before number is in
    let sites = c.args.sites in
    let least = c.loop-place.least in
    elim c.if-sites-number.branch [
      | then-sites-number w ↦
          rw w.least-is (rw w.lesser.ensures
          (subst (λ hs. IsLeastBeyond sites hs (Some (lesser least edge.label.site))) next
          (least_hit (λ (h : AHanded). h.edge.label.site) (λ (h : AHanded). sites ≤ h.edge.label.site)
          (before ++ early) (f edge) least (omega (arith, w.if-sites-number.true, c.number.ensures.is)) inv)))
      | else-sites-number w ↦
          rw w.least-is (subst (λ hs. IsLeastBeyond sites hs least) next
          (least_miss (λ (h : AHanded). h.edge.label.site) (λ (h : AHanded). sites ≤ h.edge.label.site)
          (before ++ early) (f edge) least (λ q. omega (arith, q, w.if-sites-number.false, c.number.ensures.is)) inv))
    ]

pub returns : goal.returns
returns c before number is =
    let whole = take_all c.loop-place.place c.args.edges.now
    (omega (arith, c.loop-place-test.false, c.count-place-end.ensures)) in
    subst (λ es. IsLeastBeyond c.args.sites (before ++ map (with_number number) es) c.loop-place.least) whole
    (c.loop-place.invariant before number is)
