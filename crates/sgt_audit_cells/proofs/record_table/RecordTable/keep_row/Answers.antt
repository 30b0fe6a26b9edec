use Rattle.std.proofs.Common.{ℕ, List, length, Some, sym, ap, ◌∙◌, ◌≡◌, option_map, arith}
use Rattle.std.specs.Prelude.{slice_get}
use Rattle.std.proofs.lemmas.List.{map-set}
use Rattle.std.proofs.lemmas.Option.{get_or_from_slice_get, slice_get-map}
use Rattle.sgt_audit_cells.specs.Records.{Record, Recorded}
use Rattle.sgt_audit_cells.specs.declared.record.Slot.{Slot}
use Rattle.sgt_audit_cells.specs.private.Linked.{record_of}
use Rattle.sgt_audit_cells.proofs.Lists.{set-same, some-at}
use Rattle.sgt_audit_cells.proofs.record_table.RecordTable.keep_row.Goals as goal

abbrev recorded : List Record → ℕ → Recorded
recorded rs n = record { each = rs; count = n }

pub returns : goal.returns
returns c =
    let t = c.self.inside in
    let n = c.args.number in
    let slot = c.index.result.now in
    let of = record_of t.stamp t.nodes.items in
    let found = some-at t.slots.items n (omega (arith, c.if-number-len.false, c.len.ensures, t.slots.ok.0)) in
    let is_slot : slot ≡ found.0 = c.index.ensures ∙ get_or_from_slice_get t.slots.items n found.0 slot found.1 in
    let next : Slot = record slot { row = c.in_ok-row.row } in
    ap (λ (rs : List Record). recorded rs (length t.nodes.items)) (map-set of t.slots.items n next
    ∙ set-same _ n (of slot) (slice_get-map of t.slots.items n ∙ ap (option_map of) (found.1 ∙ ap Some (sym is_slot))))
    ∙ c.self.view_is
