use Rattle.std.proofs.Common.{◌++◌, ◌∷◌, [], option_map, refl, sym, ap, ◌∙◌, subst}
use Rattle.std.specs.Option.{option_to_list}
use Rattle.std.proofs.lemmas.List.{with_items_is}
use Rattle.sgt_names.specs.Entry.{tx_of}
use Rattle.sgt_names.specs.Log.{names}
use Rattle.sgt_audit_cells.specs.Cells.{AreCells}
use Rattle.sgt_audit_cells.specs.private.Deeds.{IsTouched, act_of}
use Rattle.sgt_audit_cells.specs.Records.{Recorded}
use Rattle.sgt_audit_cells.proofs.Entering.{placed-listed}
use Rattle.sgt_audit_cells.proofs.Doing.{acts-by}
use Rattle.sgt_audit_cells.proofs.Tracking.{decides, record-of, order-next, tracks-next}
use Rattle.sgt_audit_cells.proofs.state.SiteState.enter_plain.Goals as goal

pub returns-clause-tracks : goal.returns-clause-tracks
returns-clause-tracks c ds items entries once apart listed among by ranked t =
    let old = c.args.self.now in
    let e = c.args.entry.now in
    let number = c.args.number in
    let on = placed-listed (names items) e c.args.place listed among in
    let before = record-of ds items entries old t number (tx_of e) (decides ds e number by) in
    let r = before.0 in
    let entered = c.in_ok-turn.ensures.entered r before.1 in
    let v = entered.0 in
    let records = ap (λ (q : Recorded). q.each) entered.1 in
    let count = ap (λ (q : Recorded). q.count) entered.1 in
    let acts = ap (λ o. option_to_list (option_map (act_of old.records.count) o)) c.in_ok-done.ensures
    ∙ acts-by old.records.count e c.args.place in
    let to = subst (λ did. IsTouched did c.is_end.result r v) acts entered.2 in
    let same_cells = with_items_is old.cells c.enter-2.new.cells (c.enter-2.auto.cells
    ∙ c.as_mut_slice.ensures.len) in
    let cells =
    subst (AreCells ds items (entries ++ e ∷ [])) (sym same_cells)
    (c.enter-2.ensures ds items entries once apart
    (subst (AreCells ds items entries) (sym c.as_mut_slice.ensures.value) t.cells) on ranked) in
    let order = order-next ds items entries old old t e number by once c.note_end.new.last c.is_end.result
    c.is_end.ensures c.note_end.ensures.end c.note_end.ensures.other in
    tracks-next ds items entries old _ t e number by once c.args.place on apart c.is_end.result c.is_end.ensures r v
    before.1 records to count cells order
    c.in_ok-turn.turn.comes c.in_ok-turn.turn.leaves entered.3 entered.4 c.enter.ensures.few c.live_after-self.ensures
