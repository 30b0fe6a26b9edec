use Rattle.std.proofs.Common.{◌≡◌, ◌<◌, List, sym, subst, arith, length, Some, Contains}
use Rattle.std.specs.Prelude.{◌↔◌, slice_get}
use Rattle.sgt_service_settle.specs.declared.handed.Handed.{Handed as AHanded}
use Rattle.sgt_service_settle.specs.Told.{handed_in}
use Rattle.sgt_service_settle.specs.private.Index.{IsHandedIn}
use Rattle.sgt_service_settle.proofs.Siting.{sited_row}
use Rattle.sgt_names.proofs.Lists.{element_at}
use Rattle.sgt_service_settle.proofs.index.edges_at.Goals as goal

pub returns : goal.returns
returns c h =
    let index = c.args.index.now in
    let rows = index.sited.items in
    let place : c.number-place.result ≡ c.args.site = c.number-place.ensures.is in
    let low : c.number-place.result < length rows = omega (arith, place, c.requires.there) in
    let here = element_at rows c.number-place.result c.index.result.now low c.index.ensures in
    let row =
    sited_row (handed_in index.history.now) rows c.args.site c.index.result.now c.requires.paired c.requires.there
    (subst (λ k. slice_get rows k ≡ Some c.index.result.now) place here) h in
    subst (λ (hs : List AHanded). Contains hs h ↔ (IsHandedIn index h × (h.edge.label.site ≡ c.args.site)))
    (sym c.as_slice.ensures.value) row
