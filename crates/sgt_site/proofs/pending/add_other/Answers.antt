use Rattle.std.proofs.Common.{Some, refl, subst}
use Rattle.std.specs.Prelude.{IsSome}
use Rattle.sgt_site.proofs.PendingReads.{updated-others}
use Rattle.sgt_site.proofs.pending.add_other.Goals as goal

pub returns-in_err-push-in-Some-clause-others : goal.returns-in_err-push-in-Some-clause-others
returns-in_err-push-in-Some-clause-others c =
    updated-others c.args.reads.now (c.get_mut.follows.lender c.push.new.self) c.args.tx (Some c.push.new.self)
    ((c.get_mut.follows.holds c.push.new.self).3 (subst IsSome c.in-Some.ensures.value refl))

pub returns-in_ok-push-in-Some-clause-others : goal.returns-in_ok-push-in-Some-clause-others
returns-in_ok-push-in-Some-clause-others c =
    updated-others c.args.reads.now (c.get_mut.follows.lender c.push.new.self) c.args.tx (Some c.push.new.self)
    ((c.get_mut.follows.holds c.push.new.self).3 (subst IsSome c.in-Some.ensures.value refl))

pub returns-in_ok-insert-in-None-clause-others : goal.returns-in_ok-insert-in-None-clause-others
returns-in_ok-insert-in-None-clause-others c =
    updated-others c.args.reads.now c.insert.new.self c.args.tx (Some c.push-in-None.new.self)
    (rw c.get_mut.follows.holds-at-none at c.in_ok-insert-in-None.ensures.updates)
