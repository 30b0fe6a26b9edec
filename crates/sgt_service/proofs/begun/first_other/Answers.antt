use Rattle.std.proofs.Common.{◌∙◌, ◌++◌, ◌∷◌, [], List, ap, arith, map, sym, take}
use Rattle.std.proofs.lemmas.Option.{slice_get-map}
use Rattle.std.specs.Prelude.{option_map}
use Rattle.sgt_names.specs.declared.entry.Holding.{Holding}
use Rattle.sgt_names.proofs.Lists.{element_at, take_next}
use Rattle.sgt_site.specs.State.{SiteState}
use Rattle.sgt_service.proofs.begun.first_other.Goals as goal

pub loop-place-preserved : goal.loop-place-preserved
loop-place-preserved c =
    let n = c.loop-place.place in
    let sites = c.args.sites.now in
    let given = c.args.given.now in
    let site = c.index-sites-place.result in
    let items = c.index-given-place.result in
    let found = map (λ (s : SiteState). s.items) sites in
    let here = slice_get-map (λ (s : SiteState). s.items) sites n
    ∙ ap (option_map (λ (s : SiteState). s.items)) (element_at sites n site (omega arith) c.index-sites-place.is) in
    let there = element_at given n items (omega arith) c.index-given-place.is in
    let same = c.has_items.ensures.0 c.if-not-has_items.false ∙ c.as_slice.ensures in
    take_next found n site.items here ∙ ap (λ (xs : List (List Holding)). xs ++ site.items ∷ []) c.loop-place.invariant
    ∙ ap (λ (x : List Holding). take n given ++ x ∷ []) same ∙ sym (take_next given n items there)
