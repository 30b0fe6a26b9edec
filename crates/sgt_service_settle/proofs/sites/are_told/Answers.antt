use Rattle.std.proofs.Common.{sym, subst}
use Rattle.sgt_service_settle.specs.private.Acts.{AreActs, AreByActor}
use Rattle.sgt_service_settle.proofs.sites.are_told.Goals as goal

pub are_logged-requires-clause-sorted : goal.are_logged-requires-clause-sorted
are_logged-requires-clause-sorted c = subst AreByActor (sym c.as_slice.ensures.value) c.in_ok-acts.ensures.sorted

pub returns : goal.returns
returns c =
    let are : AreActs c.args.items.now c.args.log.now c.as_slice.result.now =
    rw c.as_slice.ensures.value c.in_ok-acts.ensures.acts in
    c.are_logged.ensures c.args.log.now c.requires.known are
