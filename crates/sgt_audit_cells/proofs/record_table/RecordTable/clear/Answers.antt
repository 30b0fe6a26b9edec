use Rattle.std.proofs.Common.{List, length, map, All, sym, subst, ◌∙◌, ◌<◌, ap}
use Rattle.std.specs.Prelude.{◌≡◌}
use Rattle.std.specs.Vec.{with_items}
use Rattle.std.proofs.lemmas.List.{length-map, with_items_is}
use Rattle.sgt_names.proofs.Lists.{All-from_map}
use Rattle.sgt_names.proofs.Places.{All_at, All-from_at}
use Rattle.sgt_audit_cells.specs.Records.{Record, Recorded, no_record}
use Rattle.sgt_audit_cells.specs.private.Linked.{record_of}
use Rattle.sgt_audit_cells.specs.declared.record.Slot.{Slot}
use Rattle.sgt_audit_cells.proofs.Linked.{record-fresh}
use Rattle.sgt_audit_cells.proofs.record_table.RecordTable.clear.Goals as goal

pub returns-clause-length : goal.returns-clause-length
returns-clause-length c =
    let t = c.self.inside in
    let stamped = c.next_stamp-self-inside in
    let items = with_items_is t.slots stamped.new.slots (stamped.ensures.len ∙ c.as_mut_slice.ensures.len) in
    length-map (with_items t.slots stamped.new.slots).items (record_of stamped.result c.clear.new.self.items)
    ∙ ap length items
    ∙ stamped.ensures.len ∙ ap length c.as_mut_slice.ensures.value
    ∙ sym (length-map t.slots.items (record_of t.stamp t.nodes.items)) ∙ ap (λ (q : Recorded). length q.each) c.self.view_is

pub returns-clause-fresh : goal.returns-clause-fresh
returns-clause-fresh c =
    let t = c.self.inside in
    let stamped = c.next_stamp-self-inside in
    let stamp = stamped.result in
    let slots = stamped.new.slots in
    let nodes = c.clear.new.self.items in
    let items = with_items_is t.slots slots (stamped.ensures.len ∙ c.as_mut_slice.ensures.len) in
    subst (λ (ss : List Slot). All (λ (r : Record). r ≡ no_record) (map (record_of stamp nodes) ss)) (sym items)
    (All-from_map (λ (r : Record). r ≡ no_record) (record_of stamp nodes) slots
    (All-from_at (λ (s : Slot). record_of stamp nodes s ≡ no_record) slots
    (λ k s at. record-fresh stamp nodes s
    (All_at (λ (s : Slot). s.stamp < stamp) slots k s stamped.ensures.later at))))
