use Rattle.std.proofs.Common.{Some, refl, subst}
use Rattle.std.specs.Prelude.{IsSome}
use Rattle.sgt_site.proofs.PendingReads.{updated-others}
use Rattle.sgt_site.proofs.pending.take_other.Goals as goal

pub returns-in-Some-clause-others : goal.returns-in-Some-clause-others
returns-in-Some-clause-others c = updated-others c.args.reads.now (c.get_mut.follows.lender c.pop.new.self) c.args.tx
    (Some c.pop.new.self)
    ((c.get_mut.follows.holds c.pop.new.self).3 (subst IsSome c.in-Some.ensures.value refl))
