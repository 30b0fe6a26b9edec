use Rattle.std.proofs.Common.{ℕ, ◌+◌, List, Some, IsTrue, set, option_map, refl, sym, ap, ap₂, ◌∙◌, ◌≡◌, ◌++◌, arith}
use Rattle.std.specs.Prelude.{◌||◌, ◌&&◌, not}
use Rattle.std.specs.Option.{option_to_list}
use Rattle.std.proofs.lemmas.List.{map-set}
use Rattle.std.proofs.lemmas.Option.{get_or_from_slice_get}
use Rattle.sgt_audit_cells.specs.Records.{Record, Recorded}
use Rattle.sgt_audit_cells.specs.declared.act.Act.{Act}
use Rattle.sgt_audit_cells.specs.declared.record.Slot.{Slot}
use Rattle.sgt_audit_cells.specs.private.Deeds.{act_of}
use Rattle.sgt_audit_cells.specs.private.Linked.{chain, record_of}
use Rattle.sgt_audit_cells.proofs.Linked.{record-within, record-is, record-now, records-same}
use Rattle.sgt_audit_cells.proofs.Lists.{some-at}
use Rattle.sgt_audit_cells.proofs.record_table.RecordTable.enter.Goals as goal

pub returns-then-number-len-clause-entered : goal.returns-then-number-len-clause-entered
returns-then-number-len-clause-entered c r there =
    let t = c.self.inside in
    let within = record-within t.stamp t.nodes.items t.slots.items c.args.self.now.each (ap (λ (q : Recorded). q.each) c.self.view_is) c.args.number r
    there in
    let long = c.len.ensures ∙ t.slots.ok.0 in
    let past = c.if-number-len.true in
    absurd (omega (arith, within, long, past))

abbrev recorded : List Record → ℕ → Recorded
recorded rs n = record { each = rs; count = n }

pub returns-clause-entered : goal.returns-clause-entered
returns-clause-entered c r there =
    let t = c.self.inside in
    let n = c.args.number in
    let slot = c.index.result.now in
    let nodes = t.nodes.items in
    let more = c.link.new.nodes.items in
    let found =
    some-at t.slots.items n (record-within t.stamp nodes t.slots.items c.args.self.now.each (ap (λ (q : Recorded). q.each) c.self.view_is) n r there) in
    let is_slot : slot ≡ found.0 = c.index.ensures ∙ get_or_from_slice_get t.slots.items n found.0 slot found.1 in
    let r_is = record-is t.stamp nodes t.slots.items c.args.self.now.each (ap (λ (q : Recorded). q.each) c.self.view_is) n slot r (found.1
    ∙ ap Some (sym is_slot)) there in
    let next : Slot = record {
      stamp = t.stamp;
      ended = c.either-ended.result;
      count = c.saturating_add.result;
      last =
          c.in_ok-last.last;
      row = c.here-here.result.row;
    } in
    let v : Record = record_of t.stamp more next in
    let now = record-now t.stamp more next refl in
    let view = c.self.view_is in
    let linked = c.in_ok-last.ensures.place in (
      v,
      ap₂ (λ (rs : List Record) (n : ℕ). recorded rs n)
          (map-set (record_of t.stamp more) t.slots.items n next
          ∙ ap (λ (rs : List Record). set rs n v)
          (records-same t.stamp nodes more t.slots.items c.self.invariant.1 c.in_ok-last.ensures.others
          ∙ ap (λ (q : Recorded). q.each) view))
          (linked.1 ∙ ap (λ (q : Recorded). q.count + 1) view),
      record {
        touched = ap (λ (q : Record). q.touched) now;
        end = ap (λ (q : Record). q.ended) now ∙ c.either-ended.ensures
            ∙ ap (λ b. b || c.args.ends) (c.here-here.ensures.ended ∙ ap (λ (q : Record). q.ended) r_is);
        did = ap (λ (q : Record). q.acts) now ∙ linked.2
            ∙ ap₂ (λ (acts : List Act) (k : ℕ). acts ++ option_to_list (option_map (act_of k) c.args.done))
            (ap (chain nodes) c.here-here.ensures.last ∙ ap (λ (q : Record). q.acts) r_is)
            (ap (λ (q : Recorded). q.count) view);
      },
      c.turn-turn.ensures.comes ∙ ap (λ (q : Record). not q.touched) r_is,
      c.turn-turn.ensures.leaves ∙ ap (λ (q : Record). c.args.ends && not q.ended) r_is,
    )
