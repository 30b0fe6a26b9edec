use Rattle.std.proofs.Common.{◌<◌, sym, ap, subst, arith}
use Rattle.sgt_names.specs.Limits.{max_sites}
use Rattle.sgt_certifier.specs.Certifier.{State}
use Rattle.sgt_certifier.specs.History.{installed, IsAllowed}
use Rattle.sgt_certifier.specs.Judged.{Notes}
use Rattle.sgt_certifier.proofs.Judging.{parts_of, Parts, state_of, note_room, noted_notes, noted_kept, notes_few}
use Rattle.sgt_certifier.proofs.judge.Judge.note.Goals as goal

pub push_reserved-requires : goal.push_reserved-requires
push_reserved-requires c =
    let p = parts_of c.self.inside in
    let below : c.args.site < max_sites = omega arith in
    let allowed =
    subst (λ (v : State). IsAllowed v (installed c.args.tx c.args.site)) (sym c.self.view_is) c.requires in
    omega (arith, note_room p c.args.tx c.args.site _ _ _ c.self.invariant allowed below)

pub invariant_of-self : goal.invariant_of-self
invariant_of-self c =
    let p = parts_of c.self.inside in
    let q : Parts = record p { noted = c.push_reserved.new.self.items } in
    let below : c.args.site < max_sites = omega arith in
    let allowed =
    subst (λ (v : State). IsAllowed v (installed c.args.tx c.args.site)) (sym c.self.view_is) c.requires in
    noted_kept p q c.args.tx c.args.site _ _ _ _ c.self.invariant allowed below
    (ap (λ xs. record p { noted = xs }) c.push_reserved.ensures.items) c.push_reserved.ensures.capacity

pub returns-clause-notes : goal.returns-clause-notes
returns-clause-notes c =
    let p = parts_of c.self.inside in
    let q : Parts = record p { noted = c.push_reserved.new.self.items } in
    let below : c.args.site < max_sites = omega arith in
    let allowed =
    subst (λ (v : State). IsAllowed v (installed c.args.tx c.args.site)) (sym c.self.view_is) c.requires in
    subst (λ (v : State). Notes v c.args.tx c.args.site (state_of q)) c.self.view_is
    (noted_notes p q c.args.tx c.args.site allowed
    (ap (λ xs. record p { noted = xs }) c.push_reserved.ensures.items))

pub returns-clause-few : goal.returns-clause-few
returns-clause-few c =
    let p = parts_of c.self.inside in
    let q : Parts = record p { noted = c.push_reserved.new.self.items } in
    let below : c.args.site < max_sites = omega arith in
    let allowed =
    subst (λ (v : State). IsAllowed v (installed c.args.tx c.args.site)) (sym c.self.view_is) c.requires in
    notes_few q _ _ _ (noted_kept p q c.args.tx c.args.site _ _ _ _ c.self.invariant allowed below
    (ap (λ xs. record p { noted = xs }) c.push_reserved.ensures.items) c.push_reserved.ensures.capacity)
