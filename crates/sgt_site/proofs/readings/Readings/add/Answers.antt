use Rattle.std.proofs.Common.{refl}
use Rattle.sgt_site.proofs.LateReads.{also-late, also-tried, parted-late, parted-tried}
use Rattle.sgt_site.proofs.readings.Readings.add.Goals as goal

pub invariant_of-self : goal.invariant_of-self
invariant_of-self c =
    parted-tried _ _ c.self.invariant c.args.tx c.args.seen (rw (← c.self.view_is) at c.requires) c.insert_in.result _
    _ (rw c.in-Some.ensures at c.insert_in.ensures.items)
    (rw c.as_slice.ensures.value at (c.if-is_gap.ensures refl))

pub returns-then-is_gap-clause-ok : goal.returns-then-is_gap-clause-ok
returns-then-is_gap-clause-ok c =
    rw (← c.self.view_is)
    (also-tried _ c.self.inside.late c.self.invariant c.args.tx c.args.seen (rw (← c.self.view_is) at c.requires)
    c.insert_in.result _ _
    (rw c.in-Some.ensures at c.insert_in.ensures.items))

pub invariant_of-self-2 : goal.invariant_of-self-2
invariant_of-self-2 c =
    parted-late _ c.self.inside.late c.self.invariant c.args.tx c.args.seen (rw (← c.self.view_is) at c.requires)
    c.insert.new.self
    c.insert.ensures.ordered c.in_ok-insert.ensures.updates

pub returns-clause-ok : goal.returns-clause-ok
returns-clause-ok c =
    rw (← c.self.view_is)
    (also-late _ c.self.inside.late c.self.invariant c.args.tx c.args.seen (rw (← c.self.view_is) at c.requires)
    c.insert.new.self
    c.insert.ensures.ordered c.in_ok-insert.ensures.updates)
