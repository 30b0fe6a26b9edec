use Rattle.std.proofs.Common.{All, Contains, ap, refl, sym, subst, ◌∙◌, arith, append_assoc, length}
use Rattle.sgt_names.specs.Draft.{writing_in}
use Rattle.sgt_names.specs.declared.entry.Entry.TheVariants.{Refuse}
use Rattle.sgt_site.specs.State.{want_entry}
use Rattle.sgt_site.proofs.Blocks.{refusals-blocks, block_ends, block_alone, no_reads}
use Rattle.sgt_site.specs.private.Cells.{HasItem}
use Rattle.sgt_site.proofs.Pledges.{known-touched, writings-fit}
use Rattle.sgt_site.proofs.Keeps.{pledged_is}
use Rattle.sgt_site.proofs.PendingReads.{pending-ended}
use Rattle.sgt_site.proofs.Refusals.{kept-refuse}
use Rattle.sgt_site.proofs.site.Site.refuse.Goals as goal

pub log_wants-requires-clause-room : goal.log_wants-requires-clause-room
log_wants-requires-clause-room c =
    let pledge =
    pledged_is c.self.inside.pledged c.self.inside.part.items c.args.tx (c.if-not-is_pledged.ensures.0 refl) in
    let room = (c.self.invariant.0.room _ pledge).log in
    let same = ap length c.as_slice-2.ensures.value in
    omega (arith, room, same)

pub log_wants-requires-clause-listed : goal.log_wants-requires-clause-listed
log_wants-requires-clause-listed c = c.self.invariant.0.names_same ∙ sym c.self.invariant.2

pub log_wants-requires-clause-known : goal.log_wants-requires-clause-known
log_wants-requires-clause-known c =
    let pledge =
    pledged_is c.self.inside.pledged c.self.inside.part.items c.args.tx (c.if-not-is_pledged.ensures.0 refl) in
    let covered = c.self.invariant.0.site.pledged _ pledge in
    rw c.as_slice-2.ensures.value (known-touched (HasItem c.self.inside.cells) c.self.inside.part.items
    (subst (λ xs. All (λ w. Contains xs w.0) (writing_in c.self.inside.part.items)) (sym c.self.invariant.0.names_same)
    covered.known))

pub push_end-requires-clause-room : goal.push_end-requires-clause-room
push_end-requires-clause-room c =
    let pledge =
    pledged_is c.self.inside.pledged c.self.inside.part.items c.args.tx (c.if-not-is_pledged.ensures.0 refl) in
    let room = (c.self.invariant.0.room _ pledge).log in
    let same = ap length c.as_slice-2.ensures.value in
    omega (arith, room, same, writings-fit c.as_slice-2.result.now, c.log_wants.ensures.spare)

pub add_ended-requires-clause-first : goal.add_ended-requires-clause-first
add_ended-requires-clause-first c = λ has.
    let pledge =
    pledged_is c.self.inside.pledged c.self.inside.part.items c.args.tx (c.if-not-is_pledged.ensures.0 refl) in
    (c.self.invariant.0.site.pledged _ pledge).active ((c.self.invariant.0.ends c.args.tx).0 has)

pub add_ended-requires-clause-room : goal.add_ended-requires-clause-room
add_ended-requires-clause-room c =
    let pledge =
    pledged_is c.self.inside.pledged c.self.inside.part.items c.args.tx (c.if-not-is_pledged.ensures.0 refl) in
    let room = (c.self.invariant.0.room _ pledge).ended in
    omega (arith, room)

pub invariant_of-self : goal.invariant_of-self
invariant_of-self c =
    let pledge =
    pledged_is c.self.inside.pledged c.self.inside.part.items c.args.tx (c.if-not-is_pledged.ensures.0 refl) in
    let covered = c.self.invariant.0.site.pledged _ pledge in
    let changes = writing_in c.self.inside.part.items in
    rw (c.push_end.ensures, c.log_wants.ensures.entries, c.log_wants.ensures.installed, append_assoc, c.as_slice-2.ensures.value) (
      kept-refuse _ _ covered c.self.inside.cells _ _ _ _ c.self.invariant.0 record {
        rising =
            c.add_ended.ensures.rising;
        each = c.add_ended.ensures.each;
      },
      pending-ended c.self.inside.pending c.drop_reads.new.self _ _ c.args.tx c.self.invariant.1
          (block_ends want_entry Refuse refusals-blocks c.args.tx changes)
          (block_alone want_entry Refuse refusals-blocks c.args.tx changes)
          (no_reads want_entry Refuse refusals-blocks c.args.tx changes)
          c.drop_reads.ensures.own c.drop_reads.ensures.others,
      c.log_wants.ensures.items ∙ c.self.invariant.2,
    )
