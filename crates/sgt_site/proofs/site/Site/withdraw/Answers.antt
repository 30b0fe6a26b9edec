use Rattle.std.proofs.Common.{refl, arith}
use Rattle.sgt_site.proofs.Keeps.{kept-withdraw, pledged_is}
use Rattle.sgt_site.proofs.PendingReads.{pending-withdrawn}
use Rattle.sgt_site.proofs.site.Site.withdraw.Goals as goal

pub push_end-requires-clause-room : goal.push_end-requires-clause-room
push_end-requires-clause-room c =
    let pledge =
    pledged_is c.self.inside.pledged c.self.inside.part.items c.args.tx (c.if-not-is_pledged.ensures.0 refl) in
    let room = (c.self.invariant.0.room _ pledge).log in
    omega (arith, room)

pub add_ended-requires-clause-first : goal.add_ended-requires-clause-first
add_ended-requires-clause-first c = λ has.
    let pledge =
    pledged_is c.self.inside.pledged c.self.inside.part.items c.args.tx (c.if-not-is_pledged.ensures.0 refl) in
    (c.self.invariant.0.site.pledged _ pledge).active ((c.self.invariant.0.ends c.args.tx).0 has)

pub add_ended-requires-clause-room : goal.add_ended-requires-clause-room
add_ended-requires-clause-room c =
    let pledge =
    pledged_is c.self.inside.pledged c.self.inside.part.items c.args.tx (c.if-not-is_pledged.ensures.0 refl) in
    let room = (c.self.invariant.0.room _ pledge).ended in
    omega (arith, room)

pub invariant_of-self : goal.invariant_of-self
invariant_of-self c =
    let pledge =
    pledged_is c.self.inside.pledged c.self.inside.part.items c.args.tx (c.if-not-is_pledged.ensures.0 refl) in
    let covered = c.self.invariant.0.site.pledged _ pledge in
    rw c.push_end.ensures (
      kept-withdraw _ c.args.tx c.self.invariant.0.site covered.active c.self.inside.cells _ _ _ _ c.self.invariant.0
          record { rising = c.add_ended.ensures.rising; each = c.add_ended.ensures.each },
      pending-withdrawn c.self.inside.pending c.drop_reads.new.self _ c.args.tx c.self.invariant.1
          c.drop_reads.ensures.own c.drop_reads.ensures.others,
      c.self.invariant.2,
    )
