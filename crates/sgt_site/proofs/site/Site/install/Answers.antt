use Rattle.std.proofs.Common.{All, Contains, ap, refl, sym, subst, ◌∙◌, arith, append_assoc, length}
use Rattle.sgt_site.specs.private.Cells.{HasItem}
use Rattle.sgt_site.proofs.Pledges.{known-touched, writings-fit}
use Rattle.sgt_site.proofs.Keeps.{pledged_is}
use Rattle.sgt_names.specs.Draft.{writing_in}
use Rattle.sgt_names.specs.declared.entry.Entry.TheVariants.{Commit}
use Rattle.sgt_site.specs.State.{change_entry}
use Rattle.sgt_site.proofs.Blocks.{commits-blocks, block_ends, block_alone, no_reads}
use Rattle.sgt_site.proofs.Installs.{kept-install}
use Rattle.sgt_site.proofs.Parts.{part-rises}
use Rattle.sgt_site.proofs.PendingReads.{pending-ended}
use Rattle.sgt_site.proofs.site.Site.install.Goals as goal

pub log_changes-requires-clause-room : goal.log_changes-requires-clause-room
log_changes-requires-clause-room c =
    let pledge =
    pledged_is c.self.inside.pledged c.self.inside.part.items c.args.tx (c.if-not-is_pledged.ensures.0 refl) in
    let room = (c.self.invariant.0.room _ pledge).log in
    let same = ap length c.as_slice-2.ensures.value in
    omega (arith, room, same)

pub log_changes-requires-clause-listed : goal.log_changes-requires-clause-listed
log_changes-requires-clause-listed c = c.self.invariant.0.names_same ∙ sym c.self.invariant.2

pub log_changes-requires-clause-known : goal.log_changes-requires-clause-known
log_changes-requires-clause-known c =
    let pledge =
    pledged_is c.self.inside.pledged c.self.inside.part.items c.args.tx (c.if-not-is_pledged.ensures.0 refl) in
    let covered = c.self.invariant.0.site.pledged _ pledge in
    rw c.as_slice-2.ensures.value (known-touched (HasItem c.self.inside.cells) c.self.inside.part.items
    (subst (λ xs. All (λ w. Contains xs w.0) (writing_in c.self.inside.part.items)) (sym c.self.invariant.0.names_same)
    covered.known))

pub push_commit-requires : goal.push_commit-requires
push_commit-requires c =
    let pledge =
    pledged_is c.self.inside.pledged c.self.inside.part.items c.args.tx (c.if-not-is_pledged.ensures.0 refl) in
    let room = (c.self.invariant.0.room _ pledge).log in
    let same = ap length c.as_slice-2.ensures.value in
    omega (arith, room, same, writings-fit c.as_slice-2.result.now, c.log_changes.ensures.spare)

pub note-requires-clause-once : goal.note-requires-clause-once
note-requires-clause-once c =
    let pledge =
    pledged_is c.self.inside.pledged c.self.inside.part.items c.args.tx (c.if-not-is_pledged.ensures.0 refl) in
    let covered = c.self.invariant.0.site.pledged _ pledge in
    rw c.as_slice-3.ensures.value (part-rises _ _ covered.here covered.rising)

pub note-requires-clause-room : goal.note-requires-clause-room
note-requires-clause-room c =
    let pledge =
    pledged_is c.self.inside.pledged c.self.inside.part.items c.args.tx (c.if-not-is_pledged.ensures.0 refl) in
    rw c.as_slice-3.ensures.value (c.self.invariant.0.room _ pledge).touched

pub add_ended-requires-clause-first : goal.add_ended-requires-clause-first
add_ended-requires-clause-first c = λ has.
    let pledge =
    pledged_is c.self.inside.pledged c.self.inside.part.items c.args.tx (c.if-not-is_pledged.ensures.0 refl) in
    (c.self.invariant.0.site.pledged _ pledge).active ((c.self.invariant.0.ends c.args.tx).0 has)

pub add_ended-requires-clause-room : goal.add_ended-requires-clause-room
add_ended-requires-clause-room c =
    let pledge =
    pledged_is c.self.inside.pledged c.self.inside.part.items c.args.tx (c.if-not-is_pledged.ensures.0 refl) in
    let room = (c.self.invariant.0.room _ pledge).ended in
    omega (arith, room)

pub invariant_of-self : goal.invariant_of-self
invariant_of-self c =
    let pledge =
    pledged_is c.self.inside.pledged c.self.inside.part.items c.args.tx (c.if-not-is_pledged.ensures.0 refl) in
    let covered = c.self.invariant.0.site.pledged _ pledge in
    let noted = rw c.as_slice-3.ensures.value at c.note.ensures in
    let changes = writing_in c.self.inside.part.items in
    rw (
      c.push_commit.ensures,
      c.log_changes.ensures.entries,
      c.log_changes.ensures.installed,
      append_assoc,
      c.as_slice-2.ensures.value,
    ) (
      kept-install _ _ c.args.handle c.self.invariant.0.site covered c.self.inside.cells _ _ _ _ _ c.self.invariant.0
          noted record { rising = c.add_ended.ensures.rising; each = c.add_ended.ensures.each },
      pending-ended c.self.inside.pending c.drop_reads.new.self _ _ c.args.tx c.self.invariant.1
          (block_ends change_entry Commit commits-blocks c.args.tx changes)
          (block_alone change_entry Commit commits-blocks c.args.tx changes)
          (no_reads change_entry Commit commits-blocks c.args.tx changes)
          c.drop_reads.ensures.own c.drop_reads.ensures.others,
      c.log_changes.ensures.items ∙ c.self.invariant.2,
    )

pub returns-clause-ok : goal.returns-clause-ok
returns-clause-ok c =
    let part = rw (c.as_slice.ensures.value, c.touched_near-near.ensures.here) at (c.if-not-are_same.ensures.0 refl) in
    rw (
      ← c.self.view_is,
      c.push_commit.ensures,
      c.log_changes.ensures.entries,
      c.log_changes.ensures.installed,
      append_assoc,
      c.as_slice-2.ensures.value,
      ← part,
    ) refl
