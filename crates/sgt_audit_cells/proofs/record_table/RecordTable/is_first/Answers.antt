use Rattle.std.proofs.Common.{List, IsTrue, All, Any, ap, sym, ◌∙◌, subst}
use Rattle.std.specs.Prelude.{◌↔◌}
use Rattle.sgt_names.specs.Name.{Name}
use Rattle.sgt_names.specs.Entry.{Repeats}
use Rattle.sgt_names.specs.declared.entry.Entry.{Entry}
use Rattle.sgt_audit_cells.specs.Records.{Record, Recorded, deed_of}
use Rattle.sgt_audit_cells.specs.private.Deeds.{IsOf, changes}
use Rattle.sgt_audit_cells.specs.private.Linked.{chain}
use Rattle.sgt_audit_cells.specs.private.Rows.{AreRows}
use Rattle.sgt_audit_cells.specs.declared.act.Act.{Act}
use Rattle.sgt_audit_cells.proofs.Doing.{first-decides, not-decides}
use Rattle.sgt_audit_cells.proofs.Linked.{record-is}
use Rattle.sgt_audit_cells.proofs.Tracking.{got}
use Rattle.sgt_audit_cells.proofs.record_table.RecordTable.is_first.Goals as goal

pub returns : goal.returns
returns c r ns entries x there at on is =
    let t = c.self.inside in
    let e = c.args.entry.now in
    let s = c.in-Some.slot.now in
    let last = c.last_in-last.result in
    let at_s = got _ _ _ _ c.deref.ensures.value c.in-Some.ensures.lookup.0 c.in-Some.ensures.lookup.1 in
    let r_is = record-is t.stamp t.nodes.items t.slots.items c.args.self.now.each (ap (λ (q : Recorded). q.each) c.self.view_is) c.args.number s r at_s
    there in
    let same = ap (λ ns. chain ns last) c.as_slice-2.ensures.value ∙ ap (chain t.nodes.items) c.last_in-last.ensures
    ∙ ap (λ (q : Record). q.acts) r_is in
    let change = c.changes-change.ensures ∙ ap changes c.deed_of.ensures in
    let did =
    subst (λ b. IsTrue c.has_done.result ↔ Any (IsOf c.args.place b) (chain c.as_slice-2.result.now last)) change
    c.has_done.ensures in
    not-decides c.has_done.result (Any (IsOf c.args.place (changes (deed_of e))) r.acts)
    (All (λ (f : Entry). (y : Name) → Repeats y f e → ⊥) entries)
    (subst (λ (acts : List Act). IsTrue c.has_done.result ↔ Any (IsOf c.args.place (changes (deed_of e))) acts) same
    did) (first-decides ns entries r.acts c.args.place x at e on is)

pub returns-in-Some-shown : goal.returns-in-Some-shown
returns-in-Some-shown c r ns entries x there at on is =
    let t = c.self.inside in
    let e = c.args.entry.now in
    let s = c.in-Some.slot.now in
    let last = c.last_in-last.result in
    let at_s = got _ _ _ _ c.deref.ensures.value c.in-Some.ensures.lookup.0 c.in-Some.ensures.lookup.1 in
    let r_is = record-is t.stamp t.nodes.items t.slots.items c.args.self.now.each (ap (λ (q : Recorded). q.each) c.self.view_is) c.args.number s r at_s
    there in
    let same = ap (chain t.nodes.items) c.last_in-last.ensures ∙ ap (λ (q : Record). q.acts) r_is in
    let are = subst (AreRows t.nodes.items) (sym c.as_slice.ensures.value) c.self.invariant.3 in
    let done = c.in-Some-shown.done in
    let change = c.changes-change.ensures ∙ ap changes c.deed_of.ensures in
    let did =
    subst (λ b. IsTrue done ↔ Any (IsOf c.args.place b) (chain t.nodes.items last)) change
    (c.in-Some-shown.ensures t.nodes.items are) in
    not-decides done (Any (IsOf c.args.place (changes (deed_of e))) r.acts) (All (λ (f : Entry). (y : Name)
    → Repeats y f e → ⊥) entries)
    (subst (λ (acts : List Act). IsTrue done ↔ Any (IsOf c.args.place (changes (deed_of e))) acts) same did)
    (first-decides ns entries r.acts c.args.place x at e on is)
