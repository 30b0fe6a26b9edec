use Rattle.std.proofs.Common.{refl, ap, ◌∙◌}
use Rattle.sgt_site.specs.private.Pending.{or_else, or_nothing, in_slot, place}
use Rattle.std.specs.BTreeMap.{get}
use Rattle.std.specs.Prelude.{slice_get}
use Rattle.std.specs.Ordering.{nat_cmp}
use Rattle.sgt_site.proofs.PendingReads.{parts-added, or_else-push, ok-then, none-get}
use Rattle.sgt_site.proofs.pending.Pending.add.Goals as goal

pub add_at-requires : goal.add_at-requires
add_at-requires c = rw c.as_slice.ensures.value at (c.if-may_add.ensures.may refl)

pub returns-then-may_add-clause-ok : goal.returns-then-may_add-clause-ok
returns-then-may_add-clause-ok c =
    let self = c.args.self.now in
    let own = in_slot (slice_get self.slots.items (place c.args.tx)) c.args.tx in
    let others = or_nothing (get nat_cmp self.reads c.args.tx) in
    let free = rw (c.as_slice.ensures.value, c.place_of-at.ensures) at (c.if-may_add.ensures.free refl) in
    ok-then c.add_at.result c.add_at.ensures.ok (λ pushed.
    let now = rw c.place_of-at.ensures at pushed in
    parts-added self (record self { slots = c.add_at.new.slots }) c.args.tx c.add_at.ensures.others
    (λ t other. refl) c.args.item
    (ap (λ xs. or_else xs others) now
    ∙ or_else-push own others c.args.item
    (λ none. ap or_nothing (none-get self.reads c.args.tx (c.is_empty.ensures.0 (free none))))))
