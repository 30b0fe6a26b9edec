use Rattle.std.proofs.Common.{◌≡◌, List, IsTrue, Any, ap, ◌∙◌, subst}
use Rattle.std.specs.Prelude.{◌↔◌}
use Rattle.sgt_audit_cells.specs.Records.{Record, Recorded}
use Rattle.sgt_audit_cells.specs.private.Deeds.{ClashesWith}
use Rattle.sgt_audit_cells.specs.private.Linked.{chain}
use Rattle.sgt_audit_cells.specs.declared.act.Act.{Act}
use Rattle.sgt_audit_cells.proofs.Linked.{record-is}
use Rattle.sgt_audit_cells.proofs.Tracking.{got}
use Rattle.sgt_audit_cells.proofs.record_table.RecordTable.have_clash.Goals as goal

pub returns : goal.returns
returns c q r at_q at_r =
    let t = c.self.inside in
    let s = c.in-Some.first.now in
    let u = c.in-Some-get.second.now in
    let at_s = got _ _ _ _ c.deref.ensures.value c.in-Some.ensures.lookup.0 c.in-Some.ensures.lookup.1 in
    let at_u = got _ _ _ _ c.deref-2.ensures.value c.in-Some-get.ensures.lookup.0 c.in-Some-get.ensures.lookup.1 in
    let q_is = record-is t.stamp t.nodes.items t.slots.items c.args.self.now.each (ap (λ (q : Recorded). q.each) c.self.view_is) c.args.numbers.0 s q at_s
    at_q in
    let r_is = record-is t.stamp t.nodes.items t.slots.items c.args.self.now.each (ap (λ (q : Recorded). q.each) c.self.view_is) c.args.numbers.1 u r at_u
    at_r in
    let acts = ap (λ ns. chain ns c.last_in.result) c.as_slice.ensures.value
    ∙ ap (chain t.nodes.items) c.last_in.ensures ∙ ap (λ (k : Record). k.acts) q_is in
    let others = ap (λ ns. chain ns c.last_in-2.result) c.as_slice.ensures.value
    ∙ ap (chain t.nodes.items) c.last_in-2.ensures ∙ ap (λ (k : Record). k.acts) r_is in
    subst (λ (acts : List Act). IsTrue c.have_clash.result
    ↔ Any (λ (a : Act). (a.place ≡ c.args.place) × Any (ClashesWith c.args.kind a) r.acts) acts) acts
    (subst (λ (os : List Act). IsTrue c.have_clash.result
    ↔ Any (λ (a : Act). (a.place ≡ c.args.place) × Any (ClashesWith c.args.kind a) os)
    (chain c.as_slice.result.now c.last_in.result)) others c.have_clash.ensures)
